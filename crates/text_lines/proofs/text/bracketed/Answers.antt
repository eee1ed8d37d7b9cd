use Rattle.text_lines.proofs.Laid.{lays_both}
use Rattle.text_lines.proofs.text.bracketed.Goals as goal

pub returns : goal.returns
returns c =
    lays_both _ _ _ _ _ _ _ _ (lays_both _ _ _ _ _ _ _ _ c.text-at.ensures
    c.text-at-2.ensures)
    c.text.ensures
