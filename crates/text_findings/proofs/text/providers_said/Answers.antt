use Rattle.std.proofs.Common.{◌++◌, ap, codes}
use Rattle.text_lines.proofs.Laid.{lays_both, lays_said}
use Rattle.text_findings.proofs.text.providers_said.Goals as goal

pub returns : goal.returns
returns c =
    lays_said _ _ _ _ _ _
    (ap (λ l. codes "withdrawn ASPA has providers" ++ l) c.layout_said.ensures)
    (lays_both _ _ _ _ _ _ _ _ c.text-at.ensures c.text.ensures)
