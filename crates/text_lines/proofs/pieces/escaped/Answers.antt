use Rattle.std.proofs.Common.{flat_map, rules}
use Rattle.std.proofs.lemmas.List.{nil_from_length}
use Rattle.std.specs.Char.Escape.{escape_ascii}
use Rattle.text_lines.proofs.Laid.{lays_end}
use Rattle.text_lines.proofs.OneMore.{flat_then, no_flat, none_then, piece_then}
use Rattle.text_lines.proofs.pieces.escaped.Goals as goal

pub each-preserved : goal.each-preserved
each-preserved c = (
  lays_end _ _ _ _ _ c.escape-end.ensures,
  piece_then (flat_map escape_ascii) c.each.left.now (escape_ascii c.in-Some.byte.now)
      c.in-Some.rest.now c.args.bytes.now c.args.at c.each.end c.args.output.now c.each.output _ _
      (flat_then escape_ascii c.in-Some.byte.now c.in-Some.rest.now c.each.left.now (search rules))
      c.each.invariant.1
      c.escape-end.ensures,
)

pub returns : goal.returns
returns c =
    none_then (flat_map escape_ascii) c.each.left.now c.args.bytes.now c.args.at c.each.end
    c.args.output.now c.each.output (no_flat escape_ascii c.each.left.now (nil_from_length _
    (search rules)))
    c.each.invariant.0 c.each.invariant.1
