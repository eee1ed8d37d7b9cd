-- Written forms of units of any type: their bytes, with what the RFC has as zero set to 0 (RFC 8210
-- sections 5.2 to 5.11; ASPA units as in the Rust crate).
use Rattle.std.specs.Prelude.{ℕ, ◌+◌, List, ◌++◌, length}
use Rattle.rtr_units.specs.End.{end_list}
use Rattle.rtr_units.specs.FixedUnits.{fixed_bytes}
use Rattle.rtr_units.specs.Header.{header, version_field}
use Rattle.rtr_units.specs.Queries.{bare_list, serial_list}
use Rattle.rtr_payload.specs.UnitFields.{meaning}
use Rattle.rtr_payload.specs.Units.{form_of}
use Rattle.unit_views.specs.Views.{view_form}
use Rattle.unit_any.specs.AnyFields.{AnyFields, serial_notify, serial_query, reset_query}
use Rattle.unit_any.specs.AnyFields.{cache_response, payload, end_of_data, cache_reset}
use Rattle.unit_any.specs.AnyFields.{error_report}
use Rattle.unit_any.specs.declared.session_view.SessionView.{SessionView}
use Rattle.unit_any.specs.declared.session_view.SessionView.TheVariants as views

-- The written form of a unit with these fields: of a payload unit that of its meaning; zero where a
-- reset query (section 5.4) and a cache reset (section 5.9) have no session; else the unit's bytes.
abbrev pub session_form : AnyFields → List ℕ
session_form (serial_notify version session serial) = serial_list version 0 session serial
session_form (serial_query version session serial) = serial_list version 1 session serial
session_form (reset_query version session) = bare_list version 2 0
session_form (cache_response version session) = bare_list version 3 session
session_form (payload fields) = form_of (meaning fields)
session_form (end_of_data meaning) = end_list meaning
session_form (cache_reset version session) = bare_list version 8 0
session_form (error_report version code body) = header version 10 code (8 + length body) ++ body

-- the written form of what is viewed
abbrev pub shown_form : SessionView → List ℕ
shown_form (views.SerialNotify u) = fixed_bytes u
shown_form (views.SerialQuery u) = fixed_bytes u
shown_form (views.ResetQuery u) = bare_list (version_field (fixed_bytes u)) 2 0
shown_form (views.CacheResponse u) = fixed_bytes u
shown_form (views.Data v) = view_form v
shown_form (views.CacheReset u) = bare_list (version_field (fixed_bytes u)) 8 0
shown_form (views.Error v) = v.unit.now
