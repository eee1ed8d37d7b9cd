use Rattle.rtr_wire.proofs.SlicePromises.{slice_promised}
use Rattle.rtr_wire.proofs.slice_laws.slice_promises.Goals as goal

pub returns : goal.returns
returns c = slice_promised
