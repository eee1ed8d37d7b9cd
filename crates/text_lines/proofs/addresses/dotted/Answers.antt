use Rattle.text_lines.proofs.Laid.{lays_next}
use Rattle.text_lines.proofs.addresses.dotted.Goals as goal

pub returns : goal.returns
returns c =
    lays_next _ _ _ _ _ _ _ _ _ (lays_next _ _ _ _ _ _ _ _ _ (lays_next _ _ _ _ _ _ _ _ _
    c.number-at.ensures
    c.labelled-at.ensures)
    c.labelled-at-2.ensures)
    c.labelled.ensures
