use Rattle.std.proofs.Common.{rules}
use Rattle.std.proofs.lemmas.List.{nil_from_length}
use Rattle.hex.specs.Hex.{encode_lower}
use Rattle.text_lines.proofs.Laid.{lays_end}
use Rattle.text_lines.proofs.OneMore.{hex_then, no_hex, none_then, piece_then}
use Rattle.text_lines.proofs.pieces.hex.Goals as goal

pub each-preserved : goal.each-preserved
each-preserved c = (
  lays_end _ _ _ _ _ c.bytes-end.ensures,
  piece_then encode_lower c.each.left.now c.hex_of.result c.in-Some.rest.now c.args.bytes.now
      c.args.at c.each.end c.args.output.now c.each.output _ _
      (hex_then c.in-Some.byte.now _ _ _ c.hex_of.ensures (search rules)) c.each.invariant.1
      c.bytes-end.ensures,
)

pub returns : goal.returns
returns c =
    none_then encode_lower c.each.left.now c.args.bytes.now c.args.at c.each.end
    c.args.output.now c.each.output (no_hex _ (nil_from_length _ (search rules)))
    c.each.invariant.0 c.each.invariant.1
