use Rattle.std.proofs.Common.{◌++◌, codes, decimal, rules}
use Rattle.text_lines.proofs.Laid.{lays_end}
use Rattle.text_lines.proofs.OneMore.{each_said, few_said, none_then, piece_then, provider_then}
use Rattle.text_lines.proofs.pieces.providers.Goals as goal

pub each-preserved : goal.each-preserved
each-preserved c = (
  lays_end _ _ _ _ _ c.labelled-end.ensures,
  piece_then each_said c.each.left.now (codes " AS" ++ decimal c.u32_at.result)
      c.split_at.result.1.now c.args.providers.now c.args.at c.each.end c.args.output.now
      c.each.output _ _
      (provider_then c.each.left.now c.split_at.result.0.now c.split_at.result.1.now
      c.u32_at.result (search rules) (search rules) (search rules) c.u32_at.ensures)
      c.each.invariant.1 c.labelled-end.ensures,
)

pub returns : goal.returns
returns c =
    none_then each_said c.each.left.now c.args.providers.now c.args.at c.each.end
    c.args.output.now c.each.output (few_said _ (search rules)) c.each.invariant.0
    c.each.invariant.1
