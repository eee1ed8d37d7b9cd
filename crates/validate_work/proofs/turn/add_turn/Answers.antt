use Rattle.validate_work.proofs.Answering.{if_added}
use Rattle.validate_work.proofs.Turning.{adds_turn}
use Rattle.validate_work.proofs.turn.add_turn.Goals as goal

pub returns : goal.returns
returns c =
    if_added c.add_if_reported.result _ _
    (adds_turn c.args.other.now c.args.route.now.prefix c.args.route.now.origin
    c.validity-state.result c.validity-next.result c.args.line.now c.args.form c.args.used.now
    c.add_if_reported.new.line
    (rw c.to_route-asked.ensures.prefix at rw c.to_route-asked.ensures.asn at
    c.validity-state.ensures)
    (rw c.to_route-asked.ensures.prefix at rw c.to_route-asked.ensures.asn at
    c.validity-next.ensures))
    c.add_if_reported.ensures
