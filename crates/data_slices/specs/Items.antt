-- What the units at the front of a slice are (this library's own).
use Rattle.std.specs.Prelude.{◌≡◌, ◌≤◌, ℕ, List, length, ⊤}
use Rattle.rtr_units.specs.AnyEnd.{end_bytes, end_meaning}
use Rattle.rtr_units.specs.End.{IsEnd}
use Rattle.rtr_payload.specs.AspaUnits.{aspa_at}
use Rattle.rtr_payload.specs.KeyUnits.{key_at}
use Rattle.rtr_payload.specs.Payloads.{Meaning}
use Rattle.rtr_payload.specs.UnitFields.{HasFields, aspa_unit, key_unit, meaning}
use Rattle.rtr_payload.specs.Units.{IsUnit}
use Rattle.unit_views.specs.Origins.{origin_meaning}
use Rattle.unit_views.specs.declared.view.UnitView.{UnitView}
use Rattle.unit_views.specs.declared.view.UnitView.TheVariants as units
use Rattle.data_slices.specs.declared.item.Item.{Item}
use Rattle.data_slices.specs.declared.item.Item.TheVariants as items
use Rattle.data_slices.specs.declared.item.PayloadView.{PayloadView}
use Rattle.data_slices.specs.declared.item.PayloadView.TheVariants as views

-- what the unit means
abbrev pub meant : PayloadView → Meaning
meant (views.Origin v) = origin_meaning v
meant (views.RouterKey v) = meaning (key_unit (key_at v.unit.now))
meant (views.Aspa v) = meaning (aspa_unit (aspa_at v.unit.now))

-- a view of an ASPA unit shows its fields at their places
abbrev pub IsComplete : PayloadView → Type 0
IsComplete (views.Origin v) = ⊤
IsComplete (views.RouterKey v) = ⊤
IsComplete (views.Aspa v) = HasFields v.unit.now (aspa_unit (aspa_at v.unit.now))

-- a view of a router key's unit has at most 65535 bytes
abbrev pub IsShort : PayloadView → Type 0
IsShort (views.Origin v) = ⊤
IsShort (views.RouterKey v) = length (key_at v.unit.now).key.info ≤ 65503
IsShort (views.Aspa v) = ⊤

-- these bytes are the payload unit or the end of data
abbrev pub IsItem : Item → List ℕ → Type 0
IsItem (items.Unit v) b = IsUnit b (meant v) × IsComplete v × IsShort v
IsItem (items.End e) b = (end_bytes e ≡ b) × IsEnd b (end_meaning e)

-- the view, as an item
abbrev pub item_view : UnitView → Item
item_view (units.Origin v) = items.Unit (views.Origin v)
item_view (units.RouterKey v) = items.Unit (views.RouterKey v)
item_view (units.Aspa v) = items.Unit (views.Aspa v)
item_view (units.End e) = items.End e
