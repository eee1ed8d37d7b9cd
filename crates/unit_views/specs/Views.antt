-- What views show of the bytes that they are views of (this library's own; the units by RFC 8210
-- sections 5.6 to 5.8 and 5.10, ASPA units as in the Rust crate).
use Rattle.std.specs.Prelude.{◌≡◌, ℕ, List}
use Rattle.rtr_base.specs.Addresses.{Family}
use Rattle.rtr_units.specs.End.{IsEnd}
use Rattle.rtr_units.specs.AnyEnd.{end_bytes, end_meaning}
use Rattle.rtr_units.specs.Header.{version_field}
use Rattle.rtr_payload.specs.Payloads.{Meaning}
use Rattle.rtr_payload.specs.AspaUnits.{aspa_at}
use Rattle.rtr_payload.specs.KeyUnits.{key_at}
use Rattle.rtr_payload.specs.UnitFields.{key_unit, aspa_unit, HasFields, meaning}
use Rattle.rtr_payload.specs.Units.{form_of}
use Rattle.unit_views.specs.Origins.{IsOriginOf, origin_meaning}
use Rattle.unit_views.specs.declared.view.UnitView.{UnitView}
use Rattle.unit_views.specs.declared.view.UnitView.TheVariants as views

-- A view of these bytes, which are a payload unit or an end of data. A view of a router key or an
-- ASPA unit is its bytes, as they stand in the input, and shows the fields at their places.
abbrev pub IsViewOf : UnitView → List ℕ → Type 0
IsViewOf (views.Origin v) b = (f : Family) × IsOriginOf f v b
IsViewOf (views.RouterKey v) b = (v.unit.now ≡ b) × HasFields b (key_unit (key_at b))
IsViewOf (views.Aspa v) b = (v.unit.now ≡ b) × HasFields b (aspa_unit (aspa_at b))
IsViewOf (views.End e) b = (end_bytes e ≡ b) × IsEnd b (end_meaning e)

-- what is viewed is a payload unit, and means this
abbrev pub ViewMeans : UnitView → Meaning → Type 0
ViewMeans (views.Origin v) m = m ≡ origin_meaning v
ViewMeans (views.RouterKey v) m = m ≡ meaning (key_unit (key_at v.unit.now))
ViewMeans (views.Aspa v) m = m ≡ meaning (aspa_unit (aspa_at v.unit.now))
ViewMeans (views.End e) m = ⊥

-- the version of what is viewed: of an end of data that of its meaning, and so 0 without timings
abbrev pub version_shown : UnitView → ℕ
version_shown (views.Origin v) = v.version
version_shown (views.RouterKey v) = version_field v.unit.now
version_shown (views.Aspa v) = version_field v.unit.now
version_shown (views.End e) = (end_meaning e).version

-- the written form of what is viewed: of a payload unit that of its meaning, and of an end of data
-- its bytes
abbrev pub view_form : UnitView → List ℕ
view_form (views.Origin v) = form_of (origin_meaning v)
view_form (views.RouterKey v) = form_of (meaning (key_unit (key_at v.unit.now)))
view_form (views.Aspa v) = form_of (meaning (aspa_unit (aspa_at v.unit.now)))
view_form (views.End e) = end_bytes e

-- the form in this version; an end of data stays as it is
abbrev pub view_form_in : ℕ → UnitView → List ℕ
view_form_in version (views.Origin v) = form_of (record (origin_meaning v) { version = version })
view_form_in version (views.RouterKey v) =
    form_of (record (meaning (key_unit (key_at v.unit.now))) { version = version })
view_form_in version (views.Aspa v) =
    form_of (record (meaning (aspa_unit (aspa_at v.unit.now))) { version = version })
view_form_in version (views.End e) = end_bytes e
