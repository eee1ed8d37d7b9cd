use Rattle.rtr_units.proofs.Ends.{end_one}
use Rattle.rtr_units.proofs.laws.end_self_delimiting.Goals as goal

pub returns : goal.returns
returns c = end_one
