use Rattle.text_lines.proofs.Laid.{lays_both}
use Rattle.rtr_c.proofs.texts.lay_report.Goals as goal

pub returns : goal.returns
returns c = lays_both _ _ _ _ _ _ _ _ c.lay_code-at.ensures c.lay_quotation.ensures
