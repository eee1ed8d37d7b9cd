use Rattle.unit_any.proofs.Wholes.{any_one}
use Rattle.unit_any.proofs.laws.any_self_delimiting.Goals as goal

pub returns : goal.returns
returns c = any_one
