use Rattle.text_lines.proofs.Laid.{lays_both, lays_said}
use Rattle.text_lines.proofs.UnitPieces.{session_said}
use Rattle.text_lines.proofs.unit_object.session_alone.Goals as goal

pub returns : goal.returns
returns c =
    lays_said _ _ _ _ _ _ (session_said c.args.session)
    (lays_both _ _ _ _ _ _ _ _ c.labelled-at.ensures c.text.ensures)
