use Rattle.rtr_payload.proofs.Asking.{asks_said, said_asks}
use Rattle.rtr_payload.proofs.laws.memory_places.Goals as goal

pub returns : goal.returns
returns c = λ h. (asks_said h, said_asks h)
