use Rattle.text_lines.proofs.Laid.{lays_both, lays_said}
use Rattle.text_lines.proofs.ReportPieces.{no_parts_said}
use Rattle.text_lines.proofs.unit_object.no_parts.Goals as goal

pub returns : goal.returns
returns c =
    lays_said _ _ _ _ _ _ no_parts_said
    (lays_both _ _ _ _ _ _ _ _ c.text-at.ensures c.text.ensures)
