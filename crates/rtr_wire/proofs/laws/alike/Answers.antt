use Rattle.rtr_wire.proofs.SomeAnswer.{alike}
use Rattle.rtr_wire.proofs.laws.alike.Goals as goal

pub returns : goal.returns
returns c = alike
