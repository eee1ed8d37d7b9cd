use Rattle.text_lines.proofs.Laid.{lays_both}
use Rattle.text_findings.proofs.text.version_said.Goals as goal

pub returns : goal.returns
returns c = lays_both _ _ _ _ _ _ _ _ c.labelled-at.ensures c.between.ensures
