use Rattle.text_lines.proofs.Laid.{lays_both, lays_said}
use Rattle.text_lines.proofs.ReportPieces.{string_end}
use Rattle.text_lines.proofs.unit_object.string.Goals as goal

pub returns : goal.returns
returns c =
    lays_said _ _ _ _ _ _ (string_end c.args.text.now)
    (lays_both _ _ _ _ _ _ _ _ c.text-at.ensures
    (lays_both _ _ _ _ _ _ _ _ c.string-at.ensures c.text.ensures))
