use Rattle.rtr_wire.proofs.Runs.{accepted_forms}
use Rattle.rtr_wire.proofs.laws.canonical.Goals as goal

pub returns : goal.returns
returns c = accepted_forms
