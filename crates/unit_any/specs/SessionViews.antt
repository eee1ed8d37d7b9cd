-- Views of units of any type: what they show of their bytes, and why a list of bytes begins with no
-- unit that is shown (this library's own; the units by RFC 8210 sections 5.2 to 5.11, ASPA units as
-- in the Rust crate).
use Rattle.std.specs.Prelude.{◌≡◌, ℕ, ◌≤◌, List, length, drop, Option, Some, None, nat_lt}
use Rattle.std.specs.Prelude.{if◌then◌else◌}
use Rattle.std.specs.Option.{option_or}
use Rattle.rtr_units.specs.AnyEnd.{end_meaning}
use Rattle.rtr_units.specs.Header.{version_field, type_field, session_field, length_field}
use Rattle.rtr_units.specs.FixedUnits.{fixed_bytes}
use Rattle.rtr_units.specs.StopCauses.{Refusal, short}
use Rattle.rtr_payload.specs.FaultSteps.{first_unit}
use Rattle.rtr_payload.specs.FirstFault.{prefix_fault}
use Rattle.rtr_payload.specs.UnitFields.{Fields, LengthsAgree, meaning}
use Rattle.unit_views.specs.Views.{IsViewOf, ViewMeans}
use Rattle.unit_views.specs.declared.fault.ViewFault.{ViewFault}
use Rattle.unit_views.specs.declared.fault.ViewFault.TheVariants.{Prefix}
use Rattle.unit_views.specs.declared.view.UnitView.TheVariants.{Origin, RouterKey, Aspa, End}
use Rattle.unit_any.specs.AnyFields.{AnyFields, HasAnyFields, serial_notify, serial_query}
use Rattle.unit_any.specs.AnyFields.{reset_query, cache_response, payload, end_of_data}
use Rattle.unit_any.specs.AnyFields.{cache_reset, error_report}
use Rattle.unit_any.specs.AnyUnits.{serial_of, bare_of}
use Rattle.unit_views.specs.Faults.{NamesRefusal}
use Rattle.unit_any.specs.Reports.{IsReport}
use Rattle.unit_any.specs.SessionKinds.{session_unit}
use Rattle.unit_any.specs.declared.session_view.SessionView.{SessionView}
use Rattle.unit_any.specs.declared.session_view.SessionView.TheVariants as views

-- A view of these bytes, which are a unit of its type: the copy of a unit of a fixed size, or their
-- place in the input.
abbrev pub ShowsUnit : SessionView → List ℕ → Type 0
ShowsUnit (views.SerialNotify u) b =
    (fixed_bytes u ≡ b) × HasAnyFields b (serial_of serial_notify b)
ShowsUnit (views.SerialQuery u) b = (fixed_bytes u ≡ b) × HasAnyFields b (serial_of serial_query b)
ShowsUnit (views.ResetQuery u) b =
    (fixed_bytes u ≡ b) × HasAnyFields b (bare_of reset_query b)
ShowsUnit (views.CacheResponse u) b =
    (fixed_bytes u ≡ b) × HasAnyFields b (bare_of cache_response b)
ShowsUnit (views.Data v) b = IsViewOf v b
ShowsUnit (views.CacheReset u) b =
    (fixed_bytes u ≡ b) × HasAnyFields b (bare_of cache_reset b)
ShowsUnit (views.Error v) b = (v.unit.now ≡ b) × IsReport b

-- Why a list of bytes begins with no unit that is shown: there are fewer than the 8 bytes of a
-- header; the header is refused; there are fewer bytes than it says; the lengths of a prefix break
-- their rule (RFC 8210 sections 5.1, 5.6 and 5.7).
abbrev pub session_fault : List ℕ → Option Refusal
session_fault r =
    if nat_lt (length r) 8 then Some short
    else option_or (session_unit.fault r)
    (if nat_lt (length r) (length_field r) then Some short
    else prefix_fault (type_field r) (first_unit r))

-- The size beside a fault: that of the unit, which is all there, where the rule on the lengths of
-- its prefix alone refuses it.
abbrev pub IsSizeBeside : List ℕ → ViewFault → Option ℕ → Type 0
IsSizeBeside r (Prefix rule) size = (size ≡ Some (length_field r)) × (length_field r ≤ length r)
IsSizeBeside r _ size = size ≡ None

-- the fault names why the list begins with no unit that is shown, with the size beside it
abbrev pub IsSessionFault : List ℕ → ViewFault → Option ℕ → Type 0
IsSessionFault r e size =
    NamesRefusal (first_unit r) (session_fault r) e × IsSizeBeside r e size

-- The view shows just these fields; of a prefix it shows the address cleared, so of a payload unit
-- what the fields mean, and that the lengths of a prefix are in order.
abbrev pub ShowsFields : SessionView → AnyFields → Type 0
ShowsFields (views.SerialNotify u) f = f ≡ serial_of serial_notify (fixed_bytes u)
ShowsFields (views.SerialQuery u) f = f ≡ serial_of serial_query (fixed_bytes u)
ShowsFields (views.ResetQuery u) f = f ≡ bare_of reset_query (fixed_bytes u)
ShowsFields (views.CacheResponse u) f = f ≡ bare_of cache_response (fixed_bytes u)
ShowsFields (views.Data (End e)) f = f ≡ end_of_data (end_meaning e)
ShowsFields (views.Data (Origin v)) f =
    (g : Fields) × (f ≡ payload g) × LengthsAgree g × ViewMeans (Origin v) (meaning g)
ShowsFields (views.Data (RouterKey v)) f =
    (g : Fields) × (f ≡ payload g) × LengthsAgree g × ViewMeans (RouterKey v) (meaning g)
ShowsFields (views.Data (Aspa v)) f =
    (g : Fields) × (f ≡ payload g) × LengthsAgree g × ViewMeans (Aspa v) (meaning g)
ShowsFields (views.CacheReset u) f = f ≡ bare_of cache_reset (fixed_bytes u)
ShowsFields (views.Error v) f =
    f ≡ error_report (version_field v.unit.now) (session_field v.unit.now) (drop 8 v.unit.now)
