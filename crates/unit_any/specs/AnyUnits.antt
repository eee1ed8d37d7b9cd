-- What the values of units of any type are: their bytes, and the fields that stand in them (this
-- library's own; the places of the fields by RFC 8210 sections 5.1 to 5.11).
use Rattle.std.specs.Prelude.{ℕ, List, drop}
use Rattle.rtr_units.specs.AnyEnd.{end_bytes, end_meaning}
use Rattle.rtr_units.specs.Header.{version_field, session_field}
use Rattle.rtr_units.specs.FixedUnits.{fixed_bytes}
use Rattle.rtr_units.specs.Queries.{serial_field}
use Rattle.rtr_payload.specs.UnitBytes.{unit_bytes, unit_fields}
use Rattle.unit_any.specs.AnyFields.{AnyFields, serial_notify, serial_query, reset_query}
use Rattle.unit_any.specs.AnyFields.{cache_response, payload, end_of_data, cache_reset}
use Rattle.unit_any.specs.AnyFields.{error_report}
use Rattle.unit_any.specs.declared.any_unit.AnyUnit.{AnyUnit}
use Rattle.unit_any.specs.declared.any_unit.AnyUnit.TheVariants as units

abbrev pub any_bytes : AnyUnit → List ℕ
any_bytes (units.SerialNotify u) = fixed_bytes u
any_bytes (units.SerialQuery u) = fixed_bytes u
any_bytes (units.ResetQuery u) = fixed_bytes u
any_bytes (units.CacheResponse u) = fixed_bytes u
any_bytes (units.Payload u) = unit_bytes u
any_bytes (units.EndOfData u) = end_bytes u
any_bytes (units.CacheReset u) = fixed_bytes u
any_bytes (units.Error u) = u

abbrev pub serial_of : (ℕ → ℕ → ℕ → AnyFields) → List ℕ → AnyFields
serial_of kind b = kind (version_field b) (session_field b) (serial_field b)

abbrev pub bare_of : (ℕ → ℕ → AnyFields) → List ℕ → AnyFields
bare_of kind b = kind (version_field b) (session_field b)

-- by the variant, whatever the bytes of type and length say
abbrev pub any_fields : AnyUnit → AnyFields
any_fields (units.SerialNotify u) = serial_of serial_notify (fixed_bytes u)
any_fields (units.SerialQuery u) = serial_of serial_query (fixed_bytes u)
any_fields (units.ResetQuery u) = bare_of reset_query (fixed_bytes u)
any_fields (units.CacheResponse u) = bare_of cache_response (fixed_bytes u)
any_fields (units.Payload u) = payload (unit_fields u)
any_fields (units.EndOfData u) = end_of_data (end_meaning u)
any_fields (units.CacheReset u) = bare_of cache_reset (fixed_bytes u)
any_fields (units.Error u) = error_report (version_field u) (session_field u) (drop 8 u)
