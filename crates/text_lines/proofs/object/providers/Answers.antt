use Rattle.std.proofs.Common.{rules}
use Rattle.text_lines.proofs.JsonPieces.{few_first, first_provider}
use Rattle.text_lines.proofs.Laid.{lays_both, lays_said}
use Rattle.text_lines.proofs.object.providers.Goals as goal

pub returns-then-providers-lt4 : goal.returns-then-providers-lt4
returns-then-providers-lt4 c =
    lays_said _ _ _ _ _ _ (few_first c.args.providers.now (search rules)) c.text.ensures

pub returns : goal.returns
returns c =
    lays_said _ _ _ _ _ _
    (first_provider c.args.providers.now c.split_at.result.0.now
    c.split_at.result.1.now c.u32_at.result (search rules) (search rules) (search rules)
    c.u32_at.ensures)
    (lays_both _ _ _ _ _ _ _ _ c.number-at.ensures c.more_providers.ensures)
