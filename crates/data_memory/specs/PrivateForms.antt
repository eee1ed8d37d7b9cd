-- What is written part by part (this library's own).
use Rattle.std.specs.Prelude.{ℕ, Bool, not, is_some, List, map}
use Rattle.std.specs.BTreeMap.{BTreeMap, get}
use Rattle.std.specs.List.{flat_map}
use Rattle.std.specs.Ordering.{nat_cmp}
use Rattle.rtr_base.specs.Actions.{flags_of}
use Rattle.rtr_base.specs.declared.action.Action.{Action}
use Rattle.rtr_payload.specs.Payloads.{Payload}
use Rattle.rtr_payload.specs.Units.{form}
use Rattle.data_memory.specs.Contents.{entry_of}
use Rattle.data_memory.specs.Data.{has}

-- the written forms of these payloads, joined
abbrev pub payload_forms : ℕ → Action → List Payload → List ℕ
payload_forms v action ps = flat_map (form v (flags_of action)) ps

-- the ASPAs of a map
abbrev pub entries : BTreeMap ℕ (List ℕ) → List Payload
entries m = map entry_of m.entries

-- the map has no ASPA of the customer, or not this ASPA
abbrev pub lacks_customer : BTreeMap ℕ (List ℕ) → ℕ × List ℕ → Bool
lacks_customer m e = not (is_some (get nat_cmp m e.0))

abbrev pub lacks_entry : BTreeMap ℕ (List ℕ) → ℕ × List ℕ → Bool
lacks_entry m e = not (has (entries m) (entry_of e))
