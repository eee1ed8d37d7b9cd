-- The kinds of units that carry payload, by what is wrong with their headers and whether memory is
-- asked for. The order of the faults, and that key info and providers are read into memory, are
-- this library's own.
use Rattle.std.specs.Prelude.{◌≡◌, ℕ, Option, Some, true, ◌||◌, slice_index, ◌==◌}
use Rattle.rtr_units.specs.Header.{version_field, type_field, length_field}
use Rattle.rtr_units.specs.Reading.{Kind}
use Rattle.rtr_units.specs.StopCauses.{Refusal, Cause, wrong}
use Rattle.rtr_payload.specs.FirstFault.{header_fault}

-- units that are taken for ones of type k, whatever type they name: 9 for router keys (RFC 8210
-- section 5.10), 11 for ASPA units (as in the Rust crate)
abbrev pub variable_unit : ℕ → Kind
variable_unit k = record {
  fault = λ u. header_fault (version_field u) k (slice_index u 2) (length_field u);
  asks = λ u. true;
}

-- payload units of any type, and ends of data
abbrev pub payload_unit : Kind
payload_unit = record {
  fault = λ u. header_fault (version_field u) (type_field u) (slice_index u 2) (length_field u);
  asks = λ u. (type_field u == 9) || (type_field u == 11);
}

-- this is what is wrong with a header
abbrev pub IsRefusedBy : Option Refusal → Cause → Type 0
IsRefusedBy fault (wrong f) = fault ≡ Some f
IsRefusedBy fault c = ⊥
