-- What a router's machine sees of a unit (RFC 8210 sections 5.1 to 5.11; ASPA units as in the Rust
-- crate).
use Rattle.std.specs.Prelude.{◌≡◌, ℕ, List, length, Option, Some, None, ⊤}
use Rattle.rtr_base.specs.declared.timing.Timing.{Timing}
use Rattle.rtr_units.specs.End.{EndMeaning}
use Rattle.rtr_payload.specs.UnitFields.{Fields, prefix_unit, key_unit, aspa_unit, LengthsAgree}
use Rattle.unit_any.specs.AnyFields.{AnyFields, HasAnyFields, serial_notify, serial_query}
use Rattle.unit_any.specs.AnyFields.{reset_query, cache_response, payload, end_of_data}
use Rattle.unit_any.specs.AnyFields.{cache_reset, error_report}
use Rattle.session_router.specs.declared.head.Head.{Head}
use Rattle.session_router.specs.declared.head.Kind.{Kind}
use Rattle.session_router.specs.declared.head.Kind.TheVariants as kinds

-- of a unit of n bytes: what its kind doesn't have is 0
abbrev pub bare_head : Kind → (version n : ℕ) → Head
bare_head k v n = record {
  kind = k;
  version = v;
  session = 0;
  serial = 0;
  code = record { 0 = 0 };
  refresh = 0;
  retry = 0;
  expire = 0;
  size = n;
}

-- a session and a serial number (sections 5.2 and 5.3)
abbrev pub serial_head : Kind → (version session serial n : ℕ) → Head
serial_head k v s q n = record (bare_head k v n) { session = s; serial = q }

abbrev pub timed_head : Option Timing → Head → Head
timed_head None h = h
timed_head (Some t) h = record h { refresh = t.refresh; retry = t.retry; expire = t.expire }

-- section 5.8
abbrev pub end_head : EndMeaning → ℕ → Head
end_head e n = timed_head e.timing (serial_head kinds.EndOfData e.version e.session e.serial n)

abbrev pub payload_head : Fields → ℕ → Head
payload_head (prefix_unit u) n = bare_head kinds.Prefix u.version n
payload_head (key_unit u) n = bare_head kinds.RouterKey u.version n
payload_head (aspa_unit u) n = bare_head kinds.Aspa u.version n

abbrev pub head_of : AnyFields → ℕ → Head
head_of (serial_notify v s q) n = serial_head kinds.SerialNotify v s q n
head_of (serial_query v s q) n = serial_head kinds.SerialQuery v s q n
head_of (reset_query v s) n = bare_head kinds.ResetQuery v n
head_of (cache_response v s) n = record (bare_head kinds.CacheResponse v n) { session = s }
head_of (payload f) n = payload_head f n
head_of (end_of_data e) n = end_head e n
head_of (cache_reset v s) n = bare_head kinds.CacheReset v n
head_of (error_report v c body) n =
    record (bare_head kinds.ErrorReport v n) { code = record { 0 = c } }

-- the lengths of a prefix are in order (sections 5.6 and 5.7)
abbrev pub IsInOrder : AnyFields → Type 0
IsInOrder (payload f) = LengthsAgree f
IsInOrder f = ⊤

-- these are the bytes of a unit, of which the machine sees this
pub record HasHead (b : List ℕ) (h : Head) : Type 0 where
  pub fields : AnyFields
  pub has : HasAnyFields b fields
  pub in_order : IsInOrder fields
  pub head : h ≡ head_of fields (length b)
