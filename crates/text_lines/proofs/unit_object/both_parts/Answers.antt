use Rattle.std.proofs.Common.{arith}
use Rattle.hex.specs.Hex.{encode_lower}
use Rattle.text_lines.proofs.CleanTexts.{hex_escape}
use Rattle.text_lines.proofs.Laid.{lays_both, lays_said}
use Rattle.text_lines.proofs.PlainTexts.{plain_hex}
use Rattle.text_lines.proofs.ReportPieces.{parts_said}
use Rattle.text_lines.proofs.unit_object.both_parts.Goals as goal

pub returns : goal.returns
returns c =
    lays_said _ _ _ _ _ _
    (parts_said (encode_lower c.args.pdu.now) (encode_lower c.args.text.now) c.args.text.now
    (hex_escape c.args.pdu.now (λ i. omega (arith, c.type_inv.pdu i)))
    (hex_escape c.args.text.now (λ i. omega (arith, c.type_inv.text i)))
    (plain_hex c.args.pdu.now) (plain_hex c.args.text.now))
    (lays_both _ _ _ _ _ _ _ _ c.text-at.ensures
    (lays_both _ _ _ _ _ _ _ _ c.hex-at.ensures
    (lays_both _ _ _ _ _ _ _ _ c.text-at-2.ensures
    (lays_both _ _ _ _ _ _ _ _ c.hex-at-2.ensures
    (lays_both _ _ _ _ _ _ _ _ c.text-at-3.ensures c.text_or_null.ensures)))))
