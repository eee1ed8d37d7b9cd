-- Deltas as sequences of units: which payloads they can be of, and what is read back.
use Rattle.std.specs.Prelude.{⊤}
use Rattle.rtr_base.specs.Bytes.{IsBytes}
use Rattle.rtr_payload.specs.Payloads.{Payload, origin, key, aspa, IsPayload, Meaning}
use Rattle.data_memory.specs.Contents.{IsFit}
use Rattle.data_memory.specs.Data.{Change}

-- the lists of numbers in a router key are bytes
abbrev pub HasBytes : Payload → Type 0
HasBytes (origin o) = ⊤
HasBytes (key k) = IsBytes k.identifier × IsBytes k.info
HasBytes (aspa a) = ⊤

-- its parts are in their ranges, and its bytes are bytes
abbrev pub IsInRange : Payload → Type 0
IsInRange p = IsPayload p × HasBytes p

-- a payload that a unit announces: as the types keep it, and as data keeps it
pub record IsSendable (p : Payload) : Type 0 where
  pub range : IsPayload p
  pub fit : IsFit p
  pub bytes : HasBytes p

-- the change that a unit with this meaning makes
abbrev pub change_of : Meaning → Change
change_of m = record { action = m.action; payload = m.payload }
