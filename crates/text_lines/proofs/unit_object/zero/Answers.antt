use Rattle.text_lines.proofs.Laid.{lays_both, lays_said}
use Rattle.text_lines.proofs.UnitPieces.{zero_said}
use Rattle.text_lines.proofs.unit_object.zero.Goals as goal

pub returns : goal.returns
returns c =
    lays_said _ _ _ _ _ _ (zero_said c.args.field)
    (lays_both _ _ _ _ _ _ _ _ c.one_zero-at.ensures c.text.ensures)
