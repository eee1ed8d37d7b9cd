use Rattle.validate_work.proofs.Answering.{if_added}
use Rattle.validate_work.proofs.Turning.{adds_turn_line}
use Rattle.validate_work.proofs.turn.add_turn_line.Goals as goal

pub returns : goal.returns
returns c =
    if_added c.text.result _ _
    (adds_turn_line c.args.other.now c.args.route.now.prefix c.args.route.now.origin c.args.state
    c.args.next c.args.line.now c.add_head.new.line c.add_reasons.new.line c.text.new.self
    c.in_ok-add_head.ensures (rw c.to_route-asked.ensures.prefix at
    rw c.to_route-asked.ensures.asn at c.in_ok-add_reasons.ensures))
    c.text.ensures
