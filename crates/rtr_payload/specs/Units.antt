-- Payload units: which bytes are one, what it means, and how a meaning is written (each kind by its
-- RFC section).
use Rattle.std.specs.Prelude.{ℕ, List, ◌⊎◌}
use Rattle.rtr_base.specs.Actions.{flags_of}
use Rattle.rtr_base.specs.Bytes.{IsBytes}
use Rattle.rtr_units.specs.PrefixUnits.{prefix_list}
use Rattle.rtr_payload.specs.AspaUnits.{IsAspaUnit, aspa_list}
use Rattle.rtr_payload.specs.KeyUnits.{IsKeyUnit, key_list}
use Rattle.rtr_payload.specs.Payloads.{Payload, origin, key, aspa, Meaning}
use Rattle.rtr_payload.specs.RouteOrigins.{IsOriginUnit}

-- these are the bytes of a unit with this meaning: of a prefix (RFC 8210 sections 5.6 and 5.7), a
-- router key (section 5.10) or an ASPA (as in the Rust crate)
pub record IsUnit (b : List ℕ) (m : Meaning) : Type 0 where
  pub are_bytes : IsBytes b
  pub kind : IsOriginUnit b m ⊎ (IsKeyUnit b m ⊎ IsAspaUnit b m)

-- the written form of a payload with this version and these flags: the session and the free byte
-- are zero (RFC 8210 section 5.1: a sender sets what is free to zero)
abbrev pub form : (version flags : ℕ) → Payload → List ℕ
form v f (origin o) =
    prefix_list (record { version = v; session = 0; flags = f; free = 0; origin = o })
form v f (key k) = key_list (record { version = v; flags = f; free = 0; key = k })
form v f (aspa a) = aspa_list (record { version = v; flags = f; free = 0; aspa = a })

-- the written form of a meaning
abbrev pub form_of : Meaning → List ℕ
form_of m = form m.version (flags_of m.action) m.payload
