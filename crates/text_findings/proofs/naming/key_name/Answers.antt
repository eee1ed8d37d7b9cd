use Rattle.std.proofs.Common.{◌∷◌, ◌++◌, ap}
use Rattle.text_lines.proofs.Laid.{lays_both, lays_said}
use Rattle.text_findings.proofs.naming.key_name.Goals as goal

pub returns : goal.returns
returns c =
    lays_said _ _ _ _ _ _
    (ap (λ l. ((9 ∷ l) ++ c.args.key.now.identifier) ++ c.args.key.now.info.now)
    c.to_be_bytes.ensures)
    (lays_both _ _ _ _ _ _ _ _ (lays_both _ _ _ _ _ _ _ _ (lays_both _ _ _ _ _ _ _ _
    c.bytes-at.ensures
    c.bytes-at-2.ensures)
    c.bytes-at-3.ensures)
    c.bytes.ensures)
