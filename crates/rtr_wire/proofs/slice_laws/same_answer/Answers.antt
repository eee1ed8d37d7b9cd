use Rattle.rtr_wire.proofs.Slices.{both_ways}
use Rattle.rtr_wire.proofs.slice_laws.same_answer.Goals as goal

pub returns : goal.returns
returns c = both_ways
