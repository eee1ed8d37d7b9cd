-- Units by the offsets at which they begin. Only contracts of private functions cite these.
use Rattle.data_slices.specs.AtOffsets.{HasUnit, HaveUnits}
use Rattle.std.specs.Prelude.{◌≡◌, ◌≤◌, ℕ, ◌+◌, Bool, true, false, ◌&&◌, List, []}
use Rattle.std.specs.Prelude.{◌∷◌, ◌++◌, map, filter, length, drop, take, Option, Some, None}
use Rattle.std.specs.Prelude.{Result, if◌then◌else◌}
use Rattle.std.specs.Option.{option_cmp}
use denote.Ref.{Bor}
use Rattle.std.specs.List.Sorted.{IsSortedBy}
use Rattle.std.specs.Ordering.{is_eq, is_lt, nat_cmp, on, then_cmp}
use Rattle.std.specs.declared.cmp.Ordering.{Ordering}
use Rattle.rtr_base.specs.declared.action.Action.{Action}
use Rattle.rtr_base.specs.declared.action.Action.TheVariants.{Announce, Withdraw}
use Rattle.rtr_units.specs.AnyEnd.{end_bytes, end_meaning}
use Rattle.rtr_units.specs.End.{EndMeaning, IsEnd, end_list}
use Rattle.rtr_units.specs.declared.end.EndOfData.{EndOfData}
use Rattle.rtr_payload.specs.FirstFault.{BeginsUnit}
use Rattle.rtr_payload.specs.Payloads.{Meaning}
use Rattle.rtr_payload.specs.Units.{IsUnit, form_of}
use Rattle.data_memory.specs.Data.{Change, name_cmp}
use Rattle.data_memory.specs.Deltas.{change_forms, unit_of}
use Rattle.data_slices.specs.Canonical.{PlacesFront}
use Rattle.data_slices.specs.Items.{IsItem}
use Rattle.data_slices.specs.Net.{is_open, may_follow, settles}
use Rattle.data_slices.specs.Order.{Orders}
use Rattle.data_slices.specs.declared.item.Item.TheVariants as items
use Rattle.data_slices.specs.declared.item.PayloadView.{PayloadView}
use Rattle.data_slices.specs.declared.order_fault.OrderFault.{OrderFault}
use Rattle.data_slices.specs.declared.order_fault.OrderFault.TheVariants as faults

-- the bytes, from this offset on, are units with these meanings, which begin at these offsets
abbrev pub UnitsAt : ℕ → List ℕ → List Meaning → List ℕ → Type 0
UnitsAt from b [] [] = b ≡ []
UnitsAt from b [] (o ∷ os) = ⊥
UnitsAt from b (m ∷ ms) [] = ⊥
UnitsAt from b (m ∷ ms) (o ∷ os) =
    (first : List ℕ) × (rest : List ℕ) × (b ≡ first ++ rest) × IsUnit first m × (o ≡ from)
    × UnitsAt (from + length first) rest ms os

-- The input begins with units at these offsets, of one version, and an end of data of it.
pub record SendsAt (input : List ℕ) (os : List ℕ) (cs : List Change) (e : EndMeaning) : Type 0 where
  pub front : List ℕ
  pub last : List ℕ
  pub rest : List ℕ
  pub parts : input ≡ front ++ (last ++ rest)
  pub units : UnitsAt 0 front (map (unit_of e.version) cs) os
  pub end : IsEnd last e

-- the view of the unit there, or none where no unit begins
pub record Views (input : List ℕ) (o : ℕ) (v : PayloadView) : Type 0 where
  pub bytes : List ℕ
  pub left : List ℕ
  pub item : IsItem (items.Unit v) bytes
  pub parts : drop o input ≡ bytes ++ left

abbrev pub ViewsAt : (input : List ℕ) → ℕ → Option PayloadView → Type 0
ViewsAt input o (Some v) = Views input o v
ViewsAt input o None = BeginsUnit (drop o input) → ⊥

-- ---- the order of offsets

abbrev pub MeansAt : (input : List ℕ) → ℕ → Option Meaning → Type 0
MeansAt input o (Some m) = HasUnit input o m
MeansAt input o None = BeginsUnit (drop o input) → ⊥

-- it says of each offset what begins there
abbrev pub TellsUnits : (input : List ℕ) → (ℕ → Option Meaning) → Type 0
TellsUnits input at = (o : ℕ) → MeansAt input o (at o)

abbrev pub meaning_cmp : Meaning → Meaning → Ordering
meaning_cmp m n = name_cmp m.payload n.payload

-- by name, then by offset; where no unit begins comes first
abbrev pub offset_cmp : (ℕ → Option Meaning) → ℕ → ℕ → Ordering
offset_cmp at = then_cmp (on at (option_cmp meaning_cmp)) nat_cmp

abbrev pub ComparesOffsets : (input : List ℕ) → (x y : ℕ) → Ordering → Type 0
ComparesOffsets input x y r =
    (at : ℕ → Option Meaning) → TellsUnits input at → r ≡ offset_cmp at x y

abbrev pub SortsOffsets : (input : List ℕ) → List ℕ → Type 0
SortsOffsets input os =
    (at : ℕ → Option Meaning) → TellsUnits input at →
    IsSortedBy (λ x y. is_lt (offset_cmp at x y)) os

-- ---- reading

-- the end of data, and how many units come before it; their offsets, where there is room for all
pub record OffsetsRead (end : EndOfData) (count : ℕ) (input index : List ℕ) : Type 0 where
  pub os : List ℕ
  pub cs : List Change
  pub sends : SendsAt input os cs (end_meaning end)
  pub counts : count ≡ length os
  pub held : count ≤ length index → take count index ≡ os
  pub end_is : end_bytes end ≡ end_list (end_meaning end)

-- ---- going over changes in the order of names

abbrev pub same_name : Change → Change → Bool
same_name c d = is_eq (name_cmp c.payload d.payload)

-- the last change of a name, where they come to it
abbrev pub settled : Action → Change → List Change
settled first c = if settles first c.action c.payload then c ∷ [] else []

-- where a change of the same name follows, a change isn't the last
abbrev pub ended : Bool → Action → Change → List Change
ended same first c = if same then [] else settled first c

-- the first action of the name of the change d
abbrev pub first_after : Bool → (first : Action) → (d : Change) → Action
first_after same first d = if same then first else d.action

abbrev pub nets_from : Action → Change → List Change → List Change
nets_from first c [] = settled first c
nets_from first c (d ∷ ds) =
    ended (same_name c d) first c ++ nets_from (first_after (same_name c d) first d) d ds

-- what changes in the order of names come to
abbrev pub nets : List Change → List Change
nets [] = []
nets (c ∷ cs) = nets_from c.action c cs

abbrev pub is_action : Action → Action → Bool
is_action Announce Announce = true
is_action Announce Withdraw = false
is_action Withdraw Announce = false
is_action Withdraw Withdraw = true

abbrev pub with_action : Action → List Change → List Change
with_action a cs = filter (λ c. is_action a c.action) cs

abbrev pub repeated_at : ℕ → Action → OrderFault
repeated_at o Announce = faults.Duplicate o
repeated_at o Withdraw = faults.Unknown o

abbrev pub opened : Bool → ℕ → Option OrderFault
opened true o = Some (faults.Undecided o)
opened false o = None

abbrev pub or_else : Option OrderFault → Option OrderFault → Option OrderFault
or_else (Some f) r = Some f
or_else None r = r

abbrev pub open_at : Action → ℕ → Change → Option OrderFault
open_at first o c = opened (is_open first c.action c.payload) o

-- a change that may not follow one of its name with this action
abbrev pub unlinked_at : Action → ℕ → Change → Option OrderFault
unlinked_at before n d = if may_follow before d.action d.payload then None
    else Some (repeated_at n d.action)

-- what is refused of a change, and of the next
abbrev pub between : Bool → Action → ℕ → Change → ℕ → Change → Option OrderFault
between same first o c n d = if same
    then unlinked_at c.action n d else open_at first o c

-- the first of the changes from this one on that is refused
abbrev pub wrong_from : Action → ℕ → Change → List ℕ → List Change → Option OrderFault
wrong_from first o c [] ds = open_at first o c
wrong_from first o c (n ∷ os) [] = open_at first o c
wrong_from first o c (n ∷ os) (d ∷ ds) =
    or_else (between (same_name c d) first o c n d)
    (wrong_from (first_after (same_name c d) first d) n d os ds)

abbrev pub first_wrong : List ℕ → List Change → Option OrderFault
first_wrong [] cs = None
first_wrong (o ∷ os) [] = None
first_wrong (o ∷ os) (c ∷ cs) = wrong_from c.action o c os cs

abbrev pub HaveSome : (input os : List ℕ) → Type 0
HaveSome input os = (v : ℕ) × (cs : List Change) × HaveUnits input v os cs

-- the first of the offsets is this one, and that is the view of the unit there
abbrev pub TakesFirstUnit : Option (ℕ × PayloadView × Bor (List ℕ)) → (input os : List ℕ) → Type 0
TakesFirstUnit (Some (o, v, left)) input os = (os ≡ o ∷ left.now) × Views input o v
TakesFirstUnit None input os = os ≡ []

abbrev pub FindsWrong : Option OrderFault → (input os : List ℕ) → Type 0
FindsWrong r input os =
    (v : ℕ) (cs : List Change) → HaveUnits input v os cs → r ≡ first_wrong os cs

-- the form of a unit that is the last of its name, if it is to be written
abbrev pub last_form : (ends : Bool) → (a first : Action) → Meaning → List ℕ
last_form ends a first m =
    if ends && (is_action a m.action && settles first m.action m.payload)
    then form_of m else []

abbrev pub PlacesNets : Action → Option ℕ → (input os before after : List ℕ) → Type 0
PlacesNets a r input os before after =
    (v : ℕ) (cs : List Change) → HaveUnits input v os cs →
    PlacesFront r (change_forms v (with_action a (nets cs))) before after

-- all that is to be written
abbrev pub ordered : List Change → List Change
ordered cs = with_action Announce (nets cs) ++ with_action Withdraw (nets cs)

-- what the changes at these offsets come to was written, or its withdrawals, and the end of data
abbrev pub PlacesOrdered : Option ℕ → (input os : List ℕ) → EndMeaning → (before after : List ℕ) →
    Type 0
PlacesOrdered r input os e before after =
    (cs : List Change) → HaveUnits input e.version os cs →
    PlacesFront r (change_forms e.version (ordered cs) ++ end_list e) before after

abbrev pub PlacesRest : Option ℕ → (input os : List ℕ) → EndMeaning → (before after : List ℕ) →
    Type 0
PlacesRest r input os e before after =
    (cs : List Change) → HaveUnits input e.version os cs →
    PlacesFront r (change_forms e.version (with_action Withdraw (nets cs)) ++ end_list e)
    before after

-- the promise of the whole call, where the offsets of all units are known
abbrev pub OrdersOffsets : Result ℕ OrderFault → (input os : List ℕ) → (before after : List ℕ) →
    Type 0
OrdersOffsets r input os before after =
    (n : ℕ) → length os ≤ n → Orders r input n before after
