use Rattle.rtr_payload.proofs.Orders.{payload_decides}
use Rattle.rtr_payload.specs.Meanings.{aspa_of, key_of}
use Rattle.rtr_payload.proofs.payload.laws.equal_values.Goals as goal

pub returns-clause-keys : goal.returns-clause-keys
returns-clause-keys c = λ a b. payload_decides (key_of a) (key_of b)

pub returns-clause-aspas : goal.returns-clause-aspas
returns-clause-aspas c = λ a b. payload_decides (aspa_of a) (aspa_of b)
