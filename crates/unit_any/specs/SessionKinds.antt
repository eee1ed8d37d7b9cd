-- The kinds of units of a session: any, and error reports alone. The order of the faults, and that
-- an error report is read into memory, are this library's own.
use Rattle.std.specs.Prelude.{ℕ, slice_index, length, Option, ◌&&◌, ◌||◌, ◌==◌, if◌then◌else◌}
use Rattle.rtr_units.specs.StopCauses.{Refusal}
use Rattle.rtr_units.specs.Header.{version_field, type_field, length_field}
use Rattle.rtr_units.specs.Reading.{Kind, exact_length, least_length, of_type}
use Rattle.rtr_payload.specs.FirstFault.{header_fault}

-- By the version v, the type t, byte 2 and the length field n: serial notify and serial query (RFC
-- 8210 sections 5.2 and 5.3) have 12 bytes; reset query, cache response and cache reset (sections
-- 5.4, 5.5 and 5.9) have 8; error reports (section 5.11) a header and two lengths at least; what is
-- wrong with the others is said of payload units and ends of data, and of the types that no unit
-- has.
unfoldable pub any_header_fault : ℕ → ℕ → ℕ → ℕ → Option Refusal
any_header_fault v t g n =
    if (t == 0) || (t == 1) then exact_length 12 n
    else if (t == 2) || (t == 3) || (t == 8) then exact_length 8 n
    else if t == 10 then least_length 16 n
    else header_fault v t g n

-- Units of any type. For an error report memory is asked for once, right after its header.
abbrev pub session_unit : Kind
session_unit = record {
  fault = λ u.
      any_header_fault (version_field u) (type_field u) (slice_index u 2) (length_field u);
  asks = λ u.
      (type_field u == 9) || (type_field u == 11) || ((type_field u == 10) && (length u == 8));
}

-- units that are as long as an error report may be, whatever type they name; memory is asked for
-- once, right after the header
abbrev pub report_sized : Kind
report_sized =
    record { fault = λ u. least_length 16 (length_field u); asks = λ u. length u == 8 }

-- error reports, whose type is checked first
abbrev pub report_unit : Kind
report_unit = of_type 10 report_sized
