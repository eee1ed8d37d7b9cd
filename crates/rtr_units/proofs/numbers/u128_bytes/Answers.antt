use Rattle.std.proofs.Common.{◌∙◌}
use Rattle.rtr_base.proofs.Numbers.{be-parts}
use Rattle.rtr_units.proofs.numbers.u128_bytes.Goals as goal

pub returns : goal.returns
returns c = c.pair_bytes.ensures ∙ be-parts c.args.number 8 8
