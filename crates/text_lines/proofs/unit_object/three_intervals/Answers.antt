use Rattle.text_lines.proofs.Laid.{lays_both, lays_said}
use Rattle.text_lines.proofs.UnitPieces.{intervals_said}
use Rattle.text_lines.proofs.unit_object.three_intervals.Goals as goal

pub returns : goal.returns
returns c =
    lays_said _ _ _ _ _ _ (intervals_said c.args.timing)
    (lays_both _ _ _ _ _ _ _ _ c.labelled-at.ensures
    (lays_both _ _ _ _ _ _ _ _ c.labelled-at-2.ensures
    (lays_both _ _ _ _ _ _ _ _ c.labelled-at-3.ensures c.text.ensures)))
