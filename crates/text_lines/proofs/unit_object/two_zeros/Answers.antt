use Rattle.text_lines.proofs.Laid.{lays_both, lays_said}
use Rattle.text_lines.proofs.UnitPieces.{two_zeros_said}
use Rattle.text_lines.proofs.unit_object.two_zeros.Goals as goal

pub returns : goal.returns
returns c =
    lays_said _ _ _ _ _ _ (two_zeros_said c.args.session c.args.free)
    (lays_both _ _ _ _ _ _ _ _ c.labelled-at.ensures
    (lays_both _ _ _ _ _ _ _ _ c.labelled-at-2.ensures c.text.ensures))
