-- Changes in any order put in canonical form (this library's own; sequences by RFC 8210 section 8).
use Rattle.std.specs.Prelude.{◌≡◌, ◌≢◌, ◌<◌, ◌≤◌, ◌⊎◌, ℕ, true, false, List, [], ◌∷◌, ◌++◌}
use Rattle.std.specs.Prelude.{map, length, Option, Some, None, Result, Ok, Err}
use Rattle.std.specs.List.{AllByRecursion}
use Rattle.std.specs.declared.cmp.Ordering.TheVariants.{Less}
use Rattle.rtr_base.specs.declared.action.Action.TheVariants.{Announce, Withdraw}
use Rattle.rtr_units.specs.End.{EndMeaning, end_list}
use Rattle.rtr_payload.specs.FirstFault.{BeginsEnd, BeginsUnit}
use Rattle.rtr_payload.specs.Payloads.{Meaning, Payload}
use Rattle.unit_views.specs.Faults.{IsFirstFault}
use Rattle.rtr_wire.specs.Sequences.{Accepts, AreUnits}
use Rattle.data_memory.specs.Data.{Change, name_cmp}
use Rattle.data_memory.specs.Deltas.{change_forms, unit_of}
use Rattle.data_memory.specs.Changes.{after_all}
use Rattle.data_slices.specs.Canonical.{PlacesFront}
use Rattle.data_slices.specs.CanonicalChanges.{AreOrdered}
use Rattle.data_slices.specs.Net.{AreLinked, Nets, of_name, undecided}
use Rattle.data_slices.specs.declared.fault.Flaw.{Flaw}
use Rattle.data_slices.specs.declared.fault.Reason.{Reason}
use Rattle.data_slices.specs.declared.fault.Reason.TheVariants.{Refused, NotCanonical}
use Rattle.data_slices.specs.declared.order_fault.OrderFault.{OrderFault}
use Rattle.data_slices.specs.declared.order_fault.OrderFault.TheVariants as faults

-- The input begins with units that make these changes, all of one version, and an end of data of
-- that version.
pub record Sends (input : List ℕ) (cs : List Change) (e : EndMeaning) : Type 0 where
  pub bytes : List ℕ
  pub accepts : Accepts input bytes (map (unit_of e.version) cs) e

-- ---- inputs that begin with nothing such

-- the version of units, if there are any and all are of it
abbrev pub AreOf : Option ℕ → List Meaning → Type 0
AreOf None ms = ms ≡ []
AreOf (Some v) ms = (ms ≢ []) × AllByRecursion (λ m. m.version ≡ v) ms

-- it begins with a unit or an end of data of another version
abbrev pub IsOther : Option ℕ → List ℕ → Type 0
IsOther None left = ⊥
IsOther (Some v) left =
    ((u : BeginsUnit left) × (u.means.version ≢ v))
    ⊎ ((d : BeginsEnd left) × (d.means.version ≢ v))

abbrev pub IsStray : Reason → Option ℕ → List ℕ → Type 0
IsStray (Refused e) version left = IsFirstFault left e
IsStray NotCanonical version left = IsOther version left

-- whole payload units of one version come before the flaw, and there is a fault, or what is of
-- another version than they
pub record IsStrayAt (input : List ℕ) (f : Flaw) : Type 0 where
  pub front : List ℕ
  pub left : List ℕ
  pub parts : input ≡ front ++ left
  pub size : f.offset ≡ length front
  pub meanings : List Meaning
  pub units : AreUnits front meanings
  pub version : Option ℕ
  pub one : AreOf version meanings
  pub wrong : IsStray f.reason version left

-- ---- changes that are refused

-- each of the name may come after the one before it, and what they come to is decided
abbrev pub IsRight : List Change → Payload → Type 0
IsRight cs p = AreLinked (of_name p cs) × (undecided (of_name p cs) ≡ false)

-- the unit at the offset makes the change c, and those before it and after it make these
pub record IsAt (input : List ℕ) (offset : ℕ) (before : List Change) (c : Change)
    (later : List Change) (e : EndMeaning) : Type 0 where
  pub front : List ℕ
  pub left : List ℕ
  pub parts : input ≡ front ++ left
  pub size : offset ≡ length front
  pub units : AreUnits front (map (unit_of e.version) before)
  pub sends : Sends left (c ∷ later) e

-- the change c after those before it may not follow the last of its name
abbrev pub IsAgain : (before : List Change) (c : Change) → Type 0
IsAgain before c =
    AreLinked (of_name c.payload before)
    × (AreLinked (of_name c.payload before ++ c ∷ []) → ⊥)

-- the change c is the last of its name, and leaves open what they come to
abbrev pub IsOpenEnd : (before : List Change) (c : Change) (later : List Change) → Type 0
IsOpenEnd before c later =
    AreLinked (of_name c.payload (before ++ c ∷ later))
    × (of_name c.payload later ≡ [])
    × (undecided (of_name c.payload (before ++ c ∷ later)) ≡ true)

-- The change of the unit at the offset is refused, and it is the first in the order of names: all
-- is right with the names below its own.
pub record RefusesAt (input : List ℕ) (places offset : ℕ)
    (Is : (before : List Change) (c : Change) (later : List Change) → Type 0) : Type 0 where
  pub before : List Change
  pub c : Change
  pub later : List Change
  pub e : EndMeaning
  pub sends : Sends input (before ++ c ∷ later) e
  pub enough : length (before ++ c ∷ later) ≤ places
  pub unit : IsAt input offset before c later e
  pub refused : Is before c later
  pub below : (q : Payload) → name_cmp q c.payload ≡ Less → IsRight (before ++ c ∷ later) q

-- Why the changes are refused, the first of these, for an index of this many elements.
abbrev pub RefusesOrder : OrderFault → (input : List ℕ) → (places : ℕ) → Type 0
RefusesOrder (faults.Flaw f) input places = IsStrayAt input f
RefusesOrder faults.NoIndex input places =
    (cs : List Change) × (e : EndMeaning) × Sends input cs e × (places < length cs)
RefusesOrder (faults.Duplicate o) input places = RefusesAt input places o
    (λ before c later. (c.action ≡ Announce) × IsAgain before c)
RefusesOrder (faults.Unknown o) input places = RefusesAt input places o
    (λ before c later. (c.action ≡ Withdraw) × IsAgain before c)
RefusesOrder (faults.Undecided o) input places = RefusesAt input places o IsOpenEnd
RefusesOrder faults.NoRoom input places = ⊥

-- all is right with the changes of the input, and of what they come to this was written: all of it,
-- or a front
pub record WritesOrder (n : Option ℕ) (input : List ℕ) (places : ℕ)
    (before after : List ℕ) : Type 0 where
  pub cs : List Change
  pub e : EndMeaning
  pub sends : Sends input cs e
  pub enough : length cs ≤ places
  pub right : (p : Payload) → IsRight cs p
  pub ns : List Change
  pub nets : Nets cs ns
  pub written_form : PlacesFront n (change_forms e.version ns ++ end_list e) before after

-- The whole promise of a call, for an index of this many elements: what the changes come to was
-- written in canonical form, and its length answered; or there is no room for all of it, and a
-- front of it was written; or the input is refused, with nothing written.
abbrev pub Orders : Result ℕ OrderFault → (input : List ℕ) → (places : ℕ) →
    (before after : List ℕ) → Type 0
Orders (Ok n) input places before after = WritesOrder (Some n) input places before after
Orders (Err faults.NoRoom) input places before after = WritesOrder None input places before after
Orders (Err f) input places before after = RefusesOrder f input places × (after ≡ before)

-- ---- what follows for data

-- Changes in canonical form were written, or a front of them, that make this of the data.
pub record LeadsAlike (n : Option ℕ) (e : EndMeaning) (d made : List Payload)
    (before after : List ℕ) : Type 0 where
  pub ns : List Change
  pub in_order : AreOrdered ns
  pub leads : after_all ns (Ok d) ≡ Ok made
  pub written_form : PlacesFront n (change_forms e.version ns ++ end_list e) before after
