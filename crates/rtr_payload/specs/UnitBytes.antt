-- What the values of payload units are: their bytes, and the fields that stand in them (this
-- library's own; the places by RFC 8210 sections 5.6, 5.7 and 5.10, ASPA units as in the Rust
-- crate).
use Rattle.std.specs.Prelude.{◌≡◌, ◌≤◌, List, [], ℕ, Option, Some, None, Result, Ok, Err, ⊤}
use Rattle.std.specs.Prelude.{IsSome}
use Rattle.rtr_base.specs.Addresses.{v4, v6}
use Rattle.rtr_base.specs.declared.action.Action.{Action}
use Rattle.rtr_units.specs.StopCauses.{refused, Cause, no_memory, wrong}
use Rattle.rtr_units.specs.End.{IsEnd}
use Rattle.rtr_units.specs.Header.{version_field}
use Rattle.rtr_units.specs.FixedUnits.{fixed_bytes}
use Rattle.rtr_units.specs.PrefixUnits.{prefix_at}
use Rattle.rtr_units.specs.AnyEnd.{end_bytes, end_meaning}
use Rattle.rtr_units.specs.declared.end.EndOfData.{EndOfData}
use Rattle.rtr_payload.specs.AspaUnits.{aspa_at}
use Rattle.rtr_payload.specs.KeyUnits.{key_at}
use Rattle.rtr_payload.specs.FaultSteps.{rule_of}
use Rattle.rtr_payload.specs.FirstFault.{refusal_report}
use Rattle.rtr_payload.specs.UnitFields.{Fields, prefix_unit, key_unit, aspa_unit, HasFields}
use Rattle.rtr_payload.specs.UnitFields.{LengthsAgree, meaning, written_fields}
use Rattle.rtr_payload.specs.Units.{form}
use Rattle.rtr_payload.specs.Meanings.{payload_of}
use Rattle.rtr_payload.specs.declared.pdu.prefix_rule.PrefixRule.{PrefixRule}
use Rattle.rtr_payload.specs.declared.payload.Payload.{Payload as Value}
use Rattle.rtr_payload.specs.declared.payload.Payload.TheVariants as values
use Rattle.rtr_payload.specs.declared.payload.PayloadRef.{PayloadRef}
use Rattle.rtr_payload.specs.declared.payload.PayloadRef.TheVariants as lent
use Rattle.rtr_payload.specs.Payloads.{Payload as Meant, smallest_version}
use Rattle.rtr_payload.specs.declared.pdu.payload.Payload.{Payload}
use Rattle.rtr_payload.specs.declared.pdu.payload.Payload.TheVariants as units

abbrev pub unit_bytes : Payload → List ℕ
unit_bytes (units.V4 u) = fixed_bytes u
unit_bytes (units.V6 u) = fixed_bytes u
unit_bytes (units.RouterKey u) = u
unit_bytes (units.Aspa u) = u

-- by the variant, whatever the bytes of type and length say
abbrev pub unit_fields : Payload → Fields
unit_fields (units.V4 u) = prefix_unit (prefix_at v4 (fixed_bytes u))
unit_fields (units.V6 u) = prefix_unit (prefix_at v6 (fixed_bytes u))
unit_fields (units.RouterKey u) = key_unit (key_at u)
unit_fields (units.Aspa u) = aspa_unit (aspa_at u)

-- The unit u is the written form of the payload p with version v and flags f, in its bytes and in
-- its fields.
pub record IsWritten (v f : ℕ) (p : Meant) (u : Payload) : Type 0 where
  pub bytes : unit_bytes u ≡ form v f p
  pub fields : unit_fields u ≡ written_fields v f p

-- the bytes of what is read where a payload unit or an end of data may stand
abbrev pub answer_bytes : Result (Option Payload) EndOfData → List ℕ
answer_bytes (Ok (Some u)) = unit_bytes u
answer_bytes (Ok None) = []
answer_bytes (Err d) = end_bytes d

-- they are a unit with the fields that stand in it, or an end of data with its meaning
abbrev pub IsAnswer : Result (Option Payload) EndOfData → Type 0
IsAnswer (Ok (Some u)) = HasFields (unit_bytes u) (unit_fields u)
IsAnswer (Ok None) = ⊥
IsAnswer (Err d) = IsEnd (end_bytes d) (end_meaning d)

-- an origin whose max length was given
abbrev pub HasMaxLen : Value → Type 0
HasMaxLen (values.Origin o) = IsSome o.prefix.max_len
HasMaxLen (values.RouterKey k) = ⊤
HasMaxLen (values.Aspa a) = ⊤

-- The unit means this payload with this action. An origin's max length is given.
pub record MeansPayload (u : Payload) (action : Action) (p : Value) : Type 0 where
  pub lengths : LengthsAgree (unit_fields u)
  pub means : record {
    version = version_field (unit_bytes u);
    action = action;
    payload = payload_of p;
  } ≡ meaning (unit_fields u)
  pub max_len : HasMaxLen p

-- the units whose payload asks for memory: the bytes of keys and providers are shared, and a report
-- is made of a prefix that breaks its rule (this library's own)
abbrev pub NeedsMemory : Fields → Type 0
NeedsMemory (prefix_unit u) = IsSome (rule_of (prefix_unit u))
NeedsMemory (key_unit u) = ⊤
NeedsMemory (aspa_unit u) = ⊤

-- Why the unit has no payload: its prefix breaks a rule (RFC 8210 sections 5.1, 5.6 and 5.7),
-- which is reported, or memory was refused (this library's own).
abbrev pub HasNoPayload : Payload → Cause → Type 0
HasNoPayload u (wrong (refused report)) = (rule : PrefixRule) ×
    (rule_of (unit_fields u) ≡ Some rule) × (report ≡ refusal_report (unit_bytes u) rule)
HasNoPayload u no_memory = NeedsMemory (unit_fields u)
HasNoPayload u c = ⊥

-- ---- kinds

abbrev pub IsPrefixUnit : Payload → Type 0
IsPrefixUnit (units.V4 u) = ⊤
IsPrefixUnit (units.V6 u) = ⊤
IsPrefixUnit (units.RouterKey u) = ⊥
IsPrefixUnit (units.Aspa u) = ⊥

-- how long the part of a fixed size is (RFC 8210 sections 5.6, 5.7 and 5.10; ASPA units as in the
-- Rust crate)
abbrev pub partial_len : Payload → ℕ
partial_len (units.V4 u) = 20
partial_len (units.V6 u) = 32
partial_len (units.RouterKey u) = 32
partial_len (units.Aspa u) = 12

-- where the flags stand (RFC 8210 sections 5.6, 5.7 and 5.10; ASPA units as in the Rust crate)
abbrev pub flags_in : Payload → ℕ
flags_in (units.V4 u) = (prefix_at v4 (fixed_bytes u)).flags
flags_in (units.V6 u) = (prefix_at v6 (fixed_bytes u)).flags
flags_in (units.RouterKey u) = (key_at u).flags
flags_in (units.Aspa u) = (aspa_at u).flags

abbrev pub IsOriginRef : PayloadRef → Type 0
IsOriginRef (lent.Origin o) = ⊤
IsOriginRef (lent.RouterKey k) = ⊥
IsOriginRef (lent.Aspa a) = ⊥

-- the protocol versions that have this payload (origins RFC 6810, router keys RFC 8210; ASPAs as in
-- the Rust crate)
abbrev pub IsSupported : ℕ → Meant → Type 0
IsSupported version p = smallest_version p ≤ version
