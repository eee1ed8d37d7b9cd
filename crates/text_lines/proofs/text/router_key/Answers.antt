use Rattle.text_lines.proofs.Laid.{lays_both, lays_next}
use Rattle.text_lines.proofs.text.router_key.Goals as goal

pub returns : goal.returns
returns c =
    lays_both _ _ _ _ _ _ _ _ (lays_both _ _ _ _ _ _ _ _ (lays_next _ _ _ _ _ _ _ _ _ (lays_both _
    _ _ _ _ _ _ _ c.text-at.ensures
    c.hex-at.ensures)
    c.spaced-at.ensures)
    c.text-at-2.ensures)
    c.base64.ensures
