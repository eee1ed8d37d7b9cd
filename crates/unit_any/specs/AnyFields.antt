-- Units of any type as lists of bytes, with their fields by name (RFC 8210 sections 5.1 to 5.11;
-- ASPA units as in the Rust crate).
use Rattle.std.specs.Prelude.{◌≡◌, ℕ, ◌+◌, ◌^◌, ◌<◌, ◌≤◌, List, ◌++◌, length, Option, Some, None}
use Rattle.rtr_base.specs.Bytes.{IsBytes}
use Rattle.rtr_units.specs.End.{EndMeaning, IsEndMeaning, end_list}
use Rattle.rtr_units.specs.Header.{header}
use Rattle.rtr_units.specs.Queries.{bare_list, serial_list}
use Rattle.rtr_payload.specs.UnitFields.{Fields, Fit, WithinLimits, unit_list}

-- the fields of a unit as they stand in it
pub data AnyFields : Type 0 where
  -- RFC 8210 section 5.2
  serial_notify : (version session serial : ℕ) → AnyFields
  -- section 5.3
  serial_query : (version session serial : ℕ) → AnyFields
  -- section 5.4; the place of the session is free
  reset_query : (version session : ℕ) → AnyFields
  -- section 5.5
  cache_response : (version session : ℕ) → AnyFields
  -- sections 5.6, 5.7 and 5.10; ASPA units as in the Rust crate
  payload : Fields → AnyFields
  -- section 5.8
  end_of_data : EndMeaning → AnyFields
  -- section 5.9; the place of the session is free
  cache_reset : (version session : ℕ) → AnyFields
  -- section 5.11; the bytes are those after the header
  error_report : (version code : ℕ) → List ℕ → AnyFields

-- the bytes of the unit, by the section of each
abbrev pub any_list : AnyFields → List ℕ
any_list (serial_notify version session serial) = serial_list version 0 session serial
any_list (serial_query version session serial) = serial_list version 1 session serial
any_list (reset_query version session) = bare_list version 2 session
any_list (cache_response version session) = bare_list version 3 session
any_list (payload fields) = unit_list fields
any_list (end_of_data meaning) = end_list meaning
any_list (cache_reset version session) = bare_list version 8 session
any_list (error_report version code body) = header version 10 code (8 + length body) ++ body

-- each number fits its place (RFC 8210 section 5.1), and the lengths of router keys, ASPA units and
-- error reports go up to 65535 (as in the Rust crate)
abbrev pub AnyFit : AnyFields → Type 0
AnyFit (serial_notify version session serial) = (session < 2 ^ 16) × (serial < 2 ^ 32)
AnyFit (serial_query version session serial) = (session < 2 ^ 16) × (serial < 2 ^ 32)
AnyFit (reset_query version session) = session < 2 ^ 16
AnyFit (cache_response version session) = session < 2 ^ 16
AnyFit (payload fields) = Fit fields × WithinLimits fields
AnyFit (end_of_data meaning) = IsEndMeaning meaning
AnyFit (cache_reset version session) = session < 2 ^ 16
AnyFit (error_report version code body) = (code < 2 ^ 16) × (8 ≤ length body) ×
    (length body ≤ 65527)

-- these are the bytes of a unit with these fields
pub record HasAnyFields (b : List ℕ) (f : AnyFields) : Type 0 where
  pub fits : AnyFit f
  pub bytes : b ≡ any_list f
  pub are_bytes : IsBytes b

-- the session, of the units that name one (RFC 8210 sections 5.2, 5.3, 5.5 and 5.8)
abbrev pub any_session : AnyFields → Option ℕ
any_session (serial_notify version session serial) = Some session
any_session (serial_query version session serial) = Some session
any_session (reset_query version session) = None
any_session (cache_response version session) = Some session
any_session (payload fields) = None
any_session (end_of_data meaning) = Some meaning.session
any_session (cache_reset version session) = None
any_session (error_report version code body) = None
