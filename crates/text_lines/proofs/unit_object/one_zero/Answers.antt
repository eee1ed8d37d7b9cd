use Rattle.text_lines.proofs.Laid.{lays_both, lays_said}
use Rattle.text_lines.proofs.UnitPieces.{one_zero_said}
use Rattle.text_lines.proofs.unit_object.one_zero.Goals as goal

pub returns : goal.returns
returns c =
    lays_said _ _ _ _ _ _ (one_zero_said c.args.field)
    (lays_both _ _ _ _ _ _ _ _ c.labelled-at.ensures c.text.ensures)
