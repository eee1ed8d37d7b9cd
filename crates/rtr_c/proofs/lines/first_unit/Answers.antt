use Rattle.std.proofs.Common.{rules}
use Rattle.rtr_c.proofs.LinesTold.{unit_at_front}
use Rattle.rtr_c.proofs.lines.first_unit.Goals as goal

pub returns-else-size-input-clause-unit : goal.returns-else-size-input-clause-unit
returns-else-size-input-clause-unit c =
    unit_at_front c.args.input.now c.in-Ok-Some.size (search rules) (search rules)
