use Rattle.std.proofs.Common.{◌++◌, codes, rules}
use Rattle.std.proofs.lemmas.List.{nil_from_length}
use Rattle.std.specs.Net.Text.{hex}
use Rattle.text_lines.proofs.Laid.{lays_both, lays_end}
use Rattle.text_lines.proofs.OneMore.{flat_then, no_flat, none_then, piece_then, segments_said}
use Rattle.text_lines.proofs.addresses.more.Goals as goal

pub each-preserved : goal.each-preserved
each-preserved c = (
  lays_end _ _ _ _ _ c.segment-end.ensures,
  piece_then segments_said c.each.left.now (codes ":" ++ hex c.in-Some.segment_left.now)
      c.in-Some.rest.now c.args.segments.now c.args.at c.each.end c.args.output.now c.each.output
      _ _ (flat_then (λ t. codes ":" ++ hex t) c.in-Some.segment_left.now c.in-Some.rest.now
      c.each.left.now (search rules))
      c.each.invariant.1 (lays_both _ _ _ _ _ _ _ _ c.text-end.ensures c.segment-end.ensures),
)

pub returns : goal.returns
returns c =
    none_then segments_said c.each.left.now c.args.segments.now c.args.at c.each.end
    c.args.output.now c.each.output
    (no_flat (λ t. codes ":" ++ hex t) c.each.left.now (nil_from_length _ (search rules)))
    c.each.invariant.0
    c.each.invariant.1
