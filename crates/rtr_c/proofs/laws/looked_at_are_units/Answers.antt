use Rattle.rtr_c.proofs.ChecksTold.{looked_at}
use Rattle.rtr_c.proofs.laws.looked_at_are_units.Goals as goal

pub returns : goal.returns
returns c = looked_at
