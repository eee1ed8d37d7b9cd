use Rattle.std.proofs.Common.{rules}
use Rattle.std.proofs.lemmas.List.{nil_from_length}
use Rattle.text_lines.proofs.EscapedStrings.{no_string, string_said, string_then}
use Rattle.text_lines.proofs.Laid.{lays_end}
use Rattle.text_lines.proofs.OneMore.{none_then, piece_then}
use Rattle.text_lines.proofs.strings.string.Goals as goal

pub each-preserved : goal.each-preserved
each-preserved c = (
  lays_end _ _ _ _ _ c.front-next.ensures.laid.2,
  piece_then string_said c.each.left.now c.front-next.ensures.laid.0 c.front-next.result.1.now
      c.args.text.now c.args.at c.each.end c.args.output.now c.each.output _ _
      (string_then c.in-Some.first.now c.in-Some.others.now _ _ _ (search rules)
      c.front-next.ensures.laid.1) c.each.invariant.1
      c.front-next.ensures.laid.2,
)

pub returns : goal.returns
returns c =
    none_then string_said c.each.left.now c.args.text.now c.args.at c.each.end
    c.args.output.now c.each.output (no_string c.each.left.now (nil_from_length _ (search rules)))
    c.each.invariant.0 c.each.invariant.1
