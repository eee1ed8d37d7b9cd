use Rattle.rtr_wire.proofs.SlicesCompared.{one_comparison}
use Rattle.rtr_wire.proofs.slice_laws.one_comparison.Goals as goal

pub returns : goal.returns
returns c = one_comparison
