-- How data goes on after a unit. Only contracts of private functions cite these.
use Rattle.std.specs.Prelude.{◌≡◌, ℕ, Bool, true, false, not, List, [], ◌++◌, map, length}
use Rattle.std.specs.Prelude.{Option, ⊤}
use Rattle.std.specs.Ordering.{is_eq}
use Rattle.std.specs.declared.cmp.Ordering.{Ordering}
use Rattle.std.specs.declared.cmp.Ordering.TheVariants.{Less, Equal, Greater}
use Rattle.rtr_base.specs.declared.action.Action.{Action}
use Rattle.rtr_base.specs.declared.action.Action.TheVariants.{Announce, Withdraw}
use Rattle.rtr_base.specs.Addresses.{Family}
use Rattle.rtr_units.specs.End.{EndMeaning}
use Rattle.rtr_units.specs.Header.{type_field}
use Rattle.rtr_units.specs.PrefixUnits.{prefix_size, prefix_type}
use Rattle.rtr_payload.specs.Orders.{payload_cmp}
use Rattle.rtr_payload.specs.Payloads.{Payload}
use Rattle.rtr_payload.specs.Units.{form_of}
use Rattle.data_memory.specs.Changes.{changes, withdrawals}
use Rattle.data_memory.specs.Data.{name_cmp}
use Rattle.data_memory.specs.Deltas.{change_forms, unit_of}
use Rattle.data_slices.specs.Canonical.{HoldsData, PlacesFront, change, missing}
use Rattle.data_slices.specs.Items.{IsShort, IsComplete, meant}
use Rattle.data_slices.specs.declared.item.Item.{Item}
use Rattle.data_slices.specs.declared.item.Item.TheVariants as items
use Rattle.data_slices.specs.declared.item.PayloadView.{PayloadView}

-- ---- two sequences, gone over at once

-- whether q is what a change of p would make
abbrev pub is_same_for : Action → Payload → Payload → Bool
is_same_for Announce p q = is_eq (payload_cmp p q)
is_same_for Withdraw p q = is_eq (name_cmp p q)

-- the order of a unit and an item of another sequence, whose end comes after all
abbrev pub item_order : PayloadView → Item → Ordering
item_order v (items.Unit w) = name_cmp (meant v).payload (meant w).payload
item_order v (items.End e) = Less

abbrev pub is_same_item : Action → PayloadView → Item → Bool
is_same_item action v (items.Unit w) = is_same_for action (meant v).payload (meant w).payload
is_same_item action v (items.End e) = false

-- whether the other sequence lacks the unit, where its next item is in this order
abbrev pub lacks : Ordering → Bool → Bool
lacks Less same = true
lacks Equal same = not same
lacks Greater same = false

-- what is written for the unit in this version, where it is lacking
abbrev pub lacking_form : (version : ℕ) → Action → PayloadView → Bool → List ℕ
lacking_form version action v true =
    form_of (unit_of version (change action (meant v).payload))
lacking_form version action v false = []

-- how an item of data is
abbrev pub IsDataItem : Item → Type 0
IsDataItem (items.Unit v) = ((meant v).action ≡ Announce) × IsComplete v × IsShort v
IsDataItem (items.End e) = ⊤

-- both begin with the same n bytes
abbrev pub SharesFront : ℕ → (left left' these those : List ℕ) → Type 0
SharesFront n left left' these those =
    (b : List ℕ) × (length b ≡ n) × (these ≡ b ++ left) × (those ≡ b ++ left')

-- and these have the type and the length of a prefix unit
abbrev pub SharesUnit : (left left' these those : List ℕ) → Type 0
SharesUnit left left' these those =
    (f : Family) × (type_field these ≡ prefix_type f)
    × SharesFront (prefix_size f) left left' these those

-- What these data have and those lack was written, as units of this version, which announce or
-- withdraw it.
pub record PlacesMissing (version : ℕ) (action : Action) (result : Option ℕ)
    (these those before after : List ℕ) : Type 0 where
  pub ps : List Payload
  pub qs : List Payload
  pub d : EndMeaning
  pub e : EndMeaning
  pub held : HoldsData these ps d
  pub others : HoldsData those qs e
  pub places : PlacesFront result
      (change_forms version (map (change action) (missing action ps qs))) before after

-- the units of the changes from the old data to the new, in this version, and these last bytes
-- were written
abbrev pub PlacesDelta : Option ℕ → (old new : List ℕ) → (version : ℕ) →
    (last before after : List ℕ) → Type 0
PlacesDelta result old new version last before after =
    (d : List Payload) (e : EndMeaning) (d' : List Payload) (e' : EndMeaning) →
    HoldsData old d e → HoldsData new d' e' →
    PlacesFront result (change_forms version (changes d d') ++ last) before after

-- their withdrawals, and these last bytes
abbrev pub PlacesTail : Option ℕ → (old new : List ℕ) → (version : ℕ) →
    (last before after : List ℕ) → Type 0
PlacesTail result old new version last before after =
    (d : List Payload) (e : EndMeaning) (d' : List Payload) (e' : EndMeaning) →
    HoldsData old d e → HoldsData new d' e' → PlacesFront result
    (change_forms version (withdrawals d d') ++ last) before after
