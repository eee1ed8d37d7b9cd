use Rattle.std.proofs.Common.{◌++◌, ap, ◌∙◌, append_assoc}
use Rattle.text_lines.proofs.Laid.{lays_both, lays_said}
use Rattle.text_findings.proofs.naming.origin_name.Goals as goal

pub returns : goal.returns
returns c =
    lays_said _ _ _ _ _ _
    (append_assoc c.args.front _ c.args.address.now
    ∙ ap (λ l. c.args.front ++ (l ++ c.args.address.now)) c.to_be_bytes.ensures)
    (lays_both _ _ _ _ _ _ _ _ (lays_both _ _ _ _ _ _ _ _ c.bytes-at.ensures
    c.bytes-at-2.ensures)
    c.bytes.ensures)
