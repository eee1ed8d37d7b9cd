use Rattle.std.proofs.Common.{rules}
use Rattle.std.proofs.lemmas.List.{nil_from_length}
use Rattle.text_lines.proofs.Laid.{lays_end}
use Rattle.text_lines.proofs.OneMore.{none_then, piece_then}
use Rattle.rtr_c.proofs.Quoting.{all_quoted, none_quoted, quoted_then}
use Rattle.rtr_c.proofs.texts.lay_quoted.Goals as goal

pub each-preserved : goal.each-preserved
each-preserved c = (
  lays_end _ _ _ _ _ c.lay_byte-next.ensures,
  piece_then all_quoted c.each.left.now _ c.in-Some.others.now c.args.text.now c.args.at
      c.each.end c.args.output.now c.each.output _ _
      (quoted_then c.in-Some.first.now c.in-Some.others.now c.each.left.now (search rules))
      c.each.invariant.1 c.lay_byte-next.ensures,
)

pub returns : goal.returns
returns c =
    none_then all_quoted c.each.left.now c.args.text.now c.args.at c.each.end c.args.output.now
    c.each.output (none_quoted c.each.left.now (nil_from_length _ (search rules)))
    c.each.invariant.0 c.each.invariant.1
