use Rattle.text_lines.proofs.Laid.{lays_both}
use Rattle.text_findings.proofs.text.describe_finding.Goals as goal

pub returns : goal.returns
returns c =
    lays_both _ _ _ _ _ _ _ _ (lays_both _ _ _ _ _ _ _ _ c.labelled-at.ensures
    c.text-at.ensures)
    c.said.ensures
