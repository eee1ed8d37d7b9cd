-- Units of changes, and what breaks the rules. Only contracts of private functions cite these.
use Rattle.std.specs.Prelude.{◌≡◌, ◌≢◌, ◌⊎◌, ◌+◌, ℕ, Bool, true, false, not, ◌&&◌, List, [], ◌∷◌}
use Rattle.std.specs.Prelude.{◌++◌, map, length, Option, Some, None, ⊤, Ok}
use Rattle.std.specs.List.{AllByRecursion}
use Rattle.std.specs.declared.cmp.Ordering.{Ordering}
use Rattle.std.specs.declared.cmp.Ordering.TheVariants.{Less, Equal, Greater}
use Rattle.rtr_base.specs.declared.action.Action.{Action}
use Rattle.rtr_base.specs.declared.action.Action.TheVariants.{Announce, Withdraw}
use Rattle.rtr_units.specs.End.{EndMeaning, IsEnd}
use Rattle.rtr_payload.specs.Payloads.{Meaning, Payload}
use Rattle.rtr_payload.specs.Units.{IsUnit}
use Rattle.rtr_wire.specs.Sequences.{AreUnits}
use Rattle.data_memory.specs.Changes.{after_all}
use Rattle.data_memory.specs.Data.{IsData, announcement, has_name, name_cmp, takes_place}
use Rattle.data_memory.specs.Data.{withdrawal}
use Rattle.data_memory.specs.Deltas.{change_forms, unit_of}
use Rattle.data_slices.specs.Apply.{data_form}
use Rattle.data_slices.specs.Canonical.{PlacesFront, change}
use Rattle.data_slices.specs.Items.{IsItem, meant}
use Rattle.data_slices.specs.declared.item.Item.TheVariants as items
use Rattle.data_slices.specs.declared.item.PayloadView.{PayloadView}
use Rattle.data_slices.specs.declared.refused.Rule.{Rule}
use Rattle.data_slices.specs.declared.refused.Rule.TheVariants.{Apart, Duplicate, Unknown}

-- the payload unit that the input begins with, and what follows it
abbrev pub IsNext : PayloadView → (left input : List ℕ) → Type 0
IsNext v left input = (b : List ℕ) × IsItem (items.Unit v) b × (input ≡ b ++ left)

-- no payload unit begins there
abbrev pub NoUnit : List ℕ → Type 0
NoUnit left = (m : Meaning) (b r : List ℕ) → IsUnit b m → left ≡ b ++ r → ⊥

-- the units of version v that announce or withdraw these payloads
abbrev pub units_of : Action → ℕ → List Payload → List Meaning
units_of action v ps = map (unit_of v) (map (change action) ps)

-- The input begins with these units, whose payloads are in order, and no unit follows.
pub record HoldsUnits (action : Action) (v : ℕ) (input : List ℕ) (ps : List Payload) : Type 0 where
  pub bytes : List ℕ
  pub rest : List ℕ
  pub parts : input ≡ bytes ++ rest
  pub units : AreUnits bytes (units_of action v ps)
  pub in_order : IsData ps
  pub ends : NoUnit rest

-- ---- runs

-- the version is that of units before, if there are any
abbrev pub InVersion : Option ℕ → ℕ → Type 0
InVersion None v = ⊤
InVersion (Some w) v = w ≡ v

-- the version of the last unit, if there is one
abbrev pub last_version : Option PayloadView → Option ℕ
last_version None = None
last_version (Some last) = Some (meant last).version

abbrev pub Ascends : Option PayloadView → Payload → Type 0
Ascends None p = ⊤
Ascends (Some last) p = name_cmp (meant last).payload p ≡ Less

-- a unit with this meaning goes on with a run after its last unit
abbrev pub RunsOn : Action → Option ℕ → Option PayloadView → Meaning → Type 0
RunsOn action version last m =
    (m.action ≡ action) × InVersion version m.version × Ascends last m.payload

-- a unit goes on with data after this one
abbrev pub RunsAfter : (last view : PayloadView) → Type 0
RunsAfter last view = RunsOn Announce (Some (meant last).version) (Some last) (meant view)

-- units that go on with data, one after the other, from after a unit up to another
abbrev pub RunsTo : List PayloadView → (last : PayloadView) → (left : List ℕ) →
    (last' : PayloadView) → (left' : List ℕ) → Type 0
RunsTo [] last left last' left' = (last ≡ last') × (left ≡ left')
RunsTo (view ∷ views) last left last' left' =
    (next : List ℕ) × IsNext view next left × RunsAfter last view
    × RunsTo views view next last' left'

-- each unit that begins x begins the other list, too
abbrev pub BeginsAlso : (x left : List ℕ) → Type 0
BeginsAlso x left = (m : Meaning) (b r : List ℕ) → IsUnit b m → x ≡ b ++ r →
    (s : List ℕ) × (left ≡ b ++ s)

-- no unit of this action begins there
abbrev pub NoUnitOf : Action → List ℕ → Type 0
NoUnitOf action left = (m : Meaning) (b r : List ℕ) → IsUnit b m → left ≡ b ++ r →
    m.action ≡ action → ⊥

-- The longest run of units of this action at the front of the input, in order and of one version,
-- which is that of units before it. It is just as long where another unit follows that begins as
-- what is left, or none.
pub record IsRun (action : Action) (before : Option ℕ) (input : List ℕ) (size : ℕ)
    (version : Option ℕ) : Type 0 where
  pub front : List ℕ
  pub left : List ℕ
  pub parts : input ≡ front ++ left
  pub size_is : size ≡ length front
  pub ps : List Payload
  pub in_order : IsData ps
  pub units : (v : ℕ) → InVersion version v → AreUnits front (units_of action v ps)
  pub known : (v : ℕ) → InVersion version v → InVersion before v
  pub some : (v : ℕ) × InVersion version v
  pub longest : (x : List ℕ) → BeginsAlso x left → (v : ℕ) (qs : List Payload) (b r : List ℕ) →
      InVersion before v → IsData qs → AreUnits b (units_of action v qs) → front ++ x ≡ b ++ r →
      NoUnitOf action r →
      (map (change action) qs ≡ map (change action) ps) × (r ≡ x) × InVersion version v

-- The input begins with changes, of which these parts end after this many bytes.
pub record HoldsParts (input : List ℕ) (middle stop : ℕ) (e : EndMeaning) : Type 0 where
  pub announcing : List ℕ
  pub withdrawing : List ℕ
  pub last : List ℕ
  pub rest : List ℕ
  pub parts : input ≡ announcing ++ (withdrawing ++ (last ++ rest))
  pub middle_is : middle ≡ length announcing
  pub stop_is : stop ≡ middle + length withdrawing
  pub announced : List Payload
  pub withdrawn : List Payload
  pub announcements : AreUnits announcing (units_of Announce e.version announced)
  pub withdrawals : AreUnits withdrawing (units_of Withdraw e.version withdrawn)
  pub announced_in_order : IsData announced
  pub withdrawn_in_order : IsData withdrawn
  pub apart : AllByRecursion (λ p. has_name announced p ≡ false) withdrawn
  pub end : IsEnd last e

-- ---- what breaks a rule

-- units of which action the rule is for
abbrev pub rule_action : Rule → Action
rule_action Apart = Withdraw
rule_action Duplicate = Announce
rule_action Unknown = Withdraw

-- whether a unit of the payload breaks the rule, where its name is there or not
abbrev pub is_against : Rule → (there : Bool) → Payload → Bool
is_against Apart there p = there
is_against Duplicate there p = there && not (takes_place p)
is_against Unknown there p = not there

-- it doesn't, beside those
abbrev pub IsWithin : Rule → (those : List Payload) → Payload → Type 0
IsWithin rule those p = is_against rule (has_name those p) p ≡ false

-- the unit at the offset breaks the rule, and none before it does
pub record Breaks (rule : Rule) (v : ℕ) (ps qs : List Payload) (these : List ℕ) (offset : ℕ) :
    Type 0 where
  pub before : List Payload
  pub first : Payload
  pub others : List Payload
  pub all : ps ≡ before ++ first ∷ others
  pub within : AllByRecursion (IsWithin rule qs) before
  pub against : is_against rule (has_name qs first) first ≡ true
  pub front : List ℕ
  pub unit : List ℕ
  pub left : List ℕ
  pub parts : these ≡ front ++ (unit ++ left)
  pub size : offset ≡ length front
  pub units : AreUnits front (units_of (rule_action rule) v before)
  pub is_unit : IsUnit unit (unit_of v (change (rule_action rule) first))

abbrev pub FindsAmong : Option ℕ → Rule → ℕ → (ps qs : List Payload) → List ℕ → Type 0
FindsAmong (Some n) rule v ps qs these = Breaks rule v ps qs these n
FindsAmong None rule v ps qs these = AllByRecursion (IsWithin rule qs) ps

-- the first unit that breaks the rule, or none does
abbrev pub FindsRefused : Option ℕ → Rule → (these those : List ℕ) → Type 0
FindsRefused result rule these those = (v w : ℕ) (ps qs : List Payload) →
    HoldsUnits (rule_action rule) v these ps → HoldsUnits Announce w those qs →
    FindsAmong result rule v ps qs these

-- whether a unit and the first of others are in this order, and what follows that one; the end of
-- others comes after all units
abbrev pub IsOrderOf : Ordering → PayloadView → (left those : List ℕ) → Type 0
IsOrderOf order first left those =
    (NoUnit those × (order ≡ Less)) ⊎ ((second : PayloadView) × IsNext second left those
    × (order ≡ name_cmp (meant first).payload (meant second).payload))

-- others in order, and what is left of them after some that are below the payload
pub record Passed (p : Payload) (w : ℕ) (rest : List ℕ) (ys : List Payload) : Type 0 where
  pub passed : List Payload
  pub left : List Payload
  pub all : ys ≡ passed ++ left
  pub lower : AllByRecursion (λ y. name_cmp p y ≡ Greater) passed
  pub held : HoldsUnits Announce w rest left

abbrev pub GoesPast : Payload → (rest those : List ℕ) → Type 0
GoesPast p rest those = (w : ℕ) (ys : List Payload) → HoldsUnits Announce w those ys →
    Passed p w rest ys

-- whether what is left has the unit's name
abbrev pub Seeks : (there : Bool) → PayloadView → (rest those : List ℕ) → Type 0
Seeks there first rest those = (w : ℕ) (ys : List Payload) → HoldsUnits Announce w those ys →
    (s : Passed (meant first).payload w rest ys)
    × (has_name s.left (meant first).payload ≡ there)

-- ---- what changes make of data

abbrev pub MakesNew : (d announced withdrawn d' : List Payload) → Type 0
MakesNew d announced withdrawn d' =
    after_all (map announcement announced ++ map withdrawal withdrawn) (Ok d) ≡ Ok d'

abbrev pub IsBelow : Payload → List Payload → Type 0
IsBelow p ps = AllByRecursion (λ q. name_cmp p q ≡ Less) ps

-- data and announcements, and what follows their first, which is p: of the data, if it is old, or
-- else of the announcements; then the data have it as well, or nothing of its name
abbrev pub IsFirst : Payload → (is_old : Bool) → (d d' announced announced' : List Payload) →
    Type 0
IsFirst p true d d' announced announced' =
    (d ≡ p ∷ d') × (announced ≡ announced') × IsBelow p announced
IsFirst p false d d' announced announced' =
    (announced ≡ p ∷ announced') × (((d ≡ d') × IsBelow p d)
    ⊎ ((q : Payload) × (d ≡ q ∷ d') × (name_cmp q p ≡ Equal)))

-- the same of units in slices
abbrev pub LeastOf : PayloadView → (is_old : Bool) → (old' new' old new : List ℕ) →
    Type 0
LeastOf view is_old old' new' old new = (v : ℕ) (d ps : List Payload) →
    HoldsUnits Announce v old d → HoldsUnits Announce v new ps →
    (d' : List Payload) × (ps' : List Payload) × HoldsUnits Announce v old' d'
    × HoldsUnits Announce v new' ps' × (meant view ≡ unit_of v (announcement (meant view).payload))
    × IsFirst (meant view).payload is_old d d' ps ps'

abbrev pub NothingLeft : (old new : List ℕ) → Type 0
NothingLeft old new = NoUnit old × NoUnit new

-- what follows the first withdrawal, where it names the unit of the data; or the unit isn't of the
-- data, or there is no withdrawal, or the first is of another name
abbrev pub IsAfterWithdrawal : Option (List ℕ) → PayloadView → (is_old : Bool) →
    (withdrawn : List ℕ) → Type 0
IsAfterWithdrawal (Some left) view is_old withdrawn =
    (is_old ≡ true) × ((first : PayloadView) × IsNext first left withdrawn
    × (name_cmp (meant view).payload (meant first).payload ≡ Equal))
IsAfterWithdrawal None view is_old withdrawn =
    (is_old ≡ false) ⊎ (NoUnit withdrawn ⊎ ((first : PayloadView) × (left : List ℕ)
    × IsNext first left withdrawn
    × (name_cmp (meant view).payload (meant first).payload ≢ Equal)))

-- no unit that is left is below this one
abbrev pub IsBoundOf : PayloadView → List ℕ → Type 0
IsBoundOf bound left = NoUnit left ⊎ ((first : PayloadView) × (rest : List ℕ)
    × IsNext first rest left
    × (name_cmp (meant bound).payload (meant first).payload ≢ Greater))

-- no change that is left is below this one, or none is left
abbrev pub IsBound : Option PayloadView → (announced withdrawn : List ℕ) → Type 0
IsBound None announced withdrawn = NoUnit announced × NoUnit withdrawn
IsBound (Some bound) announced withdrawn = IsBoundOf bound announced × IsBoundOf bound withdrawn

-- the unit is below the bound, if there is one
abbrev pub IsUnder : PayloadView → Option PayloadView → Type 0
IsUnder view None = ⊤
IsUnder view (Some bound) = name_cmp (meant view).payload (meant bound).payload ≡ Less

-- units that announce what the changes make of the data were written
abbrev pub PlacesApplied : Option ℕ → (old announced withdrawn before after : List ℕ) → Type 0
PlacesApplied result old announced withdrawn before after =
    (v : ℕ) (d ps qs d' : List Payload) → HoldsUnits Announce v old d →
    HoldsUnits Announce v announced ps → HoldsUnits Withdraw v withdrawn qs →
    AllByRecursion (λ p. has_name ps p ≡ false) qs → MakesNew d ps qs d' →
    PlacesFront result (change_forms v (map announcement d')) before after

-- the same, and then an end of data
abbrev pub PlacesAll : Option ℕ → (old changes : List ℕ) → (middle stop : ℕ) → EndMeaning →
    (before after : List ℕ) → Type 0
PlacesAll result old changes middle stop e before after =
    (d d' : List Payload) → HoldsUnits Announce e.version old d →
    (parts : HoldsParts changes middle stop e) → MakesNew d parts.announced parts.withdrawn d' →
    PlacesFront result (data_form d' e) before after
