-- The fields of payload units of any kind, for contracts that speak of single fields (each by its
-- RFC section). The law `units_by_fields` shows that `HasMeaning` and `IsUnit` say the same.
use Rattle.std.specs.Prelude.{◌≡◌, ℕ, ◌≤◌, List, length, ⊤}
use Rattle.rtr_base.specs.declared.action.Action.{Action}
use Rattle.rtr_base.specs.Actions.{act}
use Rattle.rtr_base.specs.Bytes.{IsBytes}
use Rattle.rtr_units.specs.PrefixUnits.{PrefixFields, prefix_list, prefix_at}
use Rattle.rtr_payload.specs.AspaUnits.{AspaFields, aspa_list, aspa_at, HasProviders, meant_aspa}
use Rattle.rtr_payload.specs.KeyUnits.{KeyFields, key_list, key_at}
use Rattle.rtr_payload.specs.Payloads.{Payload, origin, key, aspa, Meaning, IsKey, IsAspa}
use Rattle.rtr_payload.specs.Payloads.{LengthsInOrder}
use Rattle.rtr_payload.specs.RouteOrigins.{PrefixFits, meant_origin}

-- the fields of a unit of any kind (prefixes RFC 8210 sections 5.6 and 5.7, router keys section
-- 5.10; ASPA units as in the Rust crate)
pub data Fields : Type 0 where
  prefix_unit : PrefixFields → Fields
  key_unit : KeyFields → Fields
  aspa_unit : AspaFields → Fields

-- the bytes of the unit (RFC 8210 sections 5.6, 5.7 and 5.10; ASPA units as in the Rust crate)
abbrev pub unit_list : Fields → List ℕ
unit_list (prefix_unit u) = prefix_list u
unit_list (key_unit u) = key_list u
unit_list (aspa_unit u) = aspa_list u

-- the fields of a unit of the kind that is given, read off its bytes at their places
abbrev pub fields_like : Fields → List ℕ → Fields
fields_like (prefix_unit u) b = prefix_unit (prefix_at u.origin.family b)
fields_like (key_unit u) b = key_unit (key_at b)
fields_like (aspa_unit u) b = aspa_unit (aspa_at b)

-- each number fits its place, and each list its length (the places of RFC 8210 sections 5.6, 5.7
-- and 5.10)
abbrev pub Fit : Fields → Type 0
Fit (prefix_unit u) = PrefixFits u
Fit (key_unit u) = IsKey u.key
Fit (aspa_unit u) = IsAspa u.aspa

-- what is read of keys and ASPAs: units of at most 65535 bytes, and in an announcement a provider
-- (as in the Rust crate)
abbrev pub WithinLimits : Fields → Type 0
WithinLimits (prefix_unit u) = ⊤
WithinLimits (key_unit u) = length u.key.info ≤ 65503
WithinLimits (aspa_unit u) = HasProviders (act u.flags) u.aspa.providers

-- the lengths of a prefix are in order (RFC 8210 sections 5.1, 5.6 and 5.7)
abbrev pub LengthsAgree : Fields → Type 0
LengthsAgree (prefix_unit u) = LengthsInOrder u.origin
LengthsAgree (key_unit u) = ⊤
LengthsAgree (aspa_unit u) = ⊤

-- what the fields mean: of the flags the lowest bit counts (RFC 8210 section 5.1)
abbrev pub meaning : Fields → Meaning
meaning (prefix_unit u) =
    record { version = u.version; action = act u.flags; payload = origin (meant_origin u.origin) }
meaning (key_unit u) =
    record { version = u.version; action = act u.flags; payload = key u.key }
meaning (aspa_unit u) =
    record {
      version = u.version;
      action = act u.flags;
      payload = aspa (meant_aspa (act u.flags) u.aspa);
    }

-- a payload with an action: of an ASPA that is withdrawn only the customer counts (as in the Rust
-- crate)
abbrev pub stripped : Action → Payload → Payload
stripped action (origin o) = origin o
stripped action (key k) = key k
stripped action (aspa a) = aspa (meant_aspa action a)

-- these are the bytes of a unit with these fields
pub record HasFields (b : List ℕ) (u : Fields) : Type 0 where
  pub fits : Fit u
  pub limits : WithinLimits u
  pub bytes : b ≡ unit_list u
  pub are_bytes : IsBytes b

-- these are the bytes of a unit, whatever its prefix lengths say
pub record Shape (b : List ℕ) : Type 0 where
  pub fields : Fields
  pub shape : HasFields b fields

-- these are the bytes of a unit whose fields have this meaning
pub record HasMeaning (b : List ℕ) (m : Meaning) : Type 0 where
  pub fields : Fields
  pub shape : HasFields b fields
  pub open shape use *
  pub lengths : LengthsAgree fields
  pub means : m ≡ meaning fields

-- the fields of the written form with this version and these flags: the session and the free byte
-- are zero (RFC 8210 section 5.1: a sender sets what is free to zero)
abbrev pub written_fields : (version flags : ℕ) → Payload → Fields
written_fields v f (origin o) =
    prefix_unit (record { version = v; session = 0; flags = f; free = 0; origin = o })
written_fields v f (key k) = key_unit (record { version = v; flags = f; free = 0; key = k })
written_fields v f (aspa a) = aspa_unit (record { version = v; flags = f; free = 0; aspa = a })
