use Rattle.rtr_wire.proofs.SlicesCompared.{same_comparison}
use Rattle.rtr_wire.proofs.slice_laws.same_comparison.Goals as goal

pub returns : goal.returns
returns c = same_comparison
