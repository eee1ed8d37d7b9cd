use Rattle.rtr_wire.proofs.Resumed.{resumed}
use Rattle.rtr_wire.proofs.slice_laws.resumed.Goals as goal

pub returns : goal.returns
returns c = resumed
