use Rattle.std.proofs.Common.{arith}
use Rattle.text_lines.proofs.CleanTexts.{base64_escape, hex_escape}
use Rattle.text_lines.proofs.JsonPieces.{key_said}
use Rattle.text_lines.proofs.Laid.{lays_both, lays_said}
use Rattle.text_lines.proofs.object.key_parts.Goals as goal

pub returns : goal.returns
returns c =
    lays_said _ _ _ _ _ _
    (key_said c.args.asn _ _
    (hex_escape c.args.identifier.now (λ i. omega (arith, c.type_inv.identifier i)))
    (base64_escape c.args.info.now (λ i. omega (arith, c.type_inv.info i))))
    (lays_both _ _ _ _ _ _ _ _ c.text-at.ensures
    (lays_both _ _ _ _ _ _ _ _ c.hex-at.ensures
    (lays_both _ _ _ _ _ _ _ _ c.labelled-at.ensures
    (lays_both _ _ _ _ _ _ _ _ c.text-at-2.ensures
    (lays_both _ _ _ _ _ _ _ _ c.base64-at.ensures c.text.ensures)))))
