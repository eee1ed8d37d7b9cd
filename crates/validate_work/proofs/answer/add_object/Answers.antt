use Rattle.validate_work.proofs.Answering.{adds_object, if_added}
use Rattle.validate_work.proofs.answer.add_object.Goals as goal

pub returns : goal.returns
returns c =
    if_added c.text-5.result _ _
    (adds_object c.args.vrps.now c.args.route.now.prefix c.args.route.now.origin
    c.validity-state.result c.args.line.now c.add_after.new.line c.text.new.self
    c.add_origin.new.line c.text-2.new.self c.text-3.new.self c.text-4.new.self
    c.add_covers.new.line c.text-5.new.self c.state_words.result.now
    (rw c.to_route-asked.ensures.prefix at rw c.to_route-asked.ensures.asn at
    c.validity-state.ensures) c.in_ok-add_after.ensures c.in_ok-text.ensures
    c.in_ok-add_origin.ensures c.in_ok-text-2.ensures c.state_words.ensures
    c.in_ok-text-3.ensures c.in_ok-text-4.ensures (rw c.to_route-asked.ensures.prefix at
    rw c.to_route-asked.ensures.asn at c.in_ok-add_covers.ensures))
    c.text-5.ensures
