use Rattle.std.proofs.Common.{◌++◌, codes, decimal, rules}
use Rattle.text_lines.proofs.JsonPieces.{few_more, next_provider, providers_said}
use Rattle.text_lines.proofs.Laid.{lays_said}
use Rattle.text_lines.proofs.OneMore.{piece_then}
use Rattle.text_lines.proofs.object.more_providers.Goals as goal

pub each-preserved : goal.each-preserved
each-preserved c =
    piece_then providers_said c.each.left.now (codes "," ++ decimal c.u32_at.result)
    c.split_at.result.1.now c.args.providers.now c.args.at c.each.end c.args.output.now
    c.each.output _ _
    (next_provider c.each.left.now c.split_at.result.0.now c.split_at.result.1.now
    c.u32_at.result (search rules) (search rules) (search rules) c.u32_at.ensures)
    c.each.invariant c.labelled-end.ensures

pub returns : goal.returns
returns c =
    c.each.invariant _ _
    (lays_said _ _ _ _ _ _ (few_more c.each.left.now (search rules)) c.text.ensures)
