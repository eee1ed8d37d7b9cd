use Rattle.text_lines.proofs.Laid.{lays_next}
use Rattle.text_lines.proofs.text.intervals.Goals as goal

pub returns : goal.returns
returns c =
    lays_next _ _ _ _ _ _ _ _ _ (lays_next _ _ _ _ _ _ _ _ _ c.labelled-at.ensures
    c.labelled-at-2.ensures)
    c.labelled.ensures
