use Rattle.text_lines.proofs.Laid.{lays_both}
use Rattle.rtr_c.proofs.texts.lay_said_at.Goals as goal

pub returns : goal.returns
returns c = lays_both _ _ _ _ _ _ _ _ c.lay_status-at.ensures c.labelled.ensures
