use Rattle.std.proofs.Common.{◌∷◌, ap}
use Rattle.text_lines.proofs.Laid.{lays_both, lays_said}
use Rattle.text_findings.proofs.naming.aspa_name.Goals as goal

pub returns : goal.returns
returns c =
    lays_said _ _ _ _ _ _ (ap (λ l. 11 ∷ l) c.to_be_bytes.ensures)
    (lays_both _ _ _ _ _ _ _ _ c.bytes-at.ensures c.bytes.ensures)
