use Rattle.text_lines.proofs.Laid.{lays_both, lays_said}
use Rattle.text_lines.proofs.UnitPieces.{state_said}
use Rattle.text_lines.proofs.unit_object.state.Goals as goal

pub returns : goal.returns
returns c =
    lays_said _ _ _ _ _ _ (state_said c.args.session c.args.serial c.args.timing)
    (lays_both _ _ _ _ _ _ _ _ c.labelled-at.ensures
    (lays_both _ _ _ _ _ _ _ _ c.labelled-at-2.ensures c.intervals.ensures))
