use Rattle.std.proofs.Common.{◌∙◌}
use Rattle.rtr_base.proofs.Prefixes.{halves_cleared}
use Rattle.rtr_base.proofs.addr.cleared_v6.Goals as goal

pub returns : goal.returns
returns c =
    c.joined.ensures
    ∙ halves_cleared c.args.len c.args.bits _ _ c.requires c.cleared_first.ensures.short
    c.cleared_first.ensures.long c.cleared_last.ensures.short c.cleared_last.ensures.long
