-- Changes whose units begin at given offsets of a slice, made onto data in the order of the offsets
-- (this library's own; what changes make of data: RFC 8210 sections 5.6, 5.7, 5.10 and 12). Between
-- the units may stand what makes no changes.
use Rattle.std.specs.Prelude.{◌≡◌, ◌<◌, ◌⊎◌, ⊤, ℕ, List, [], ◌∷◌, ◌++◌, drop, map}
use Rattle.std.specs.Prelude.{Option, Some, None, Result, Ok, Err}
use Rattle.std.specs.List.{AllByRecursion}
use Rattle.rtr_base.specs.declared.action.Action.{Action}
use Rattle.rtr_base.specs.declared.action.Action.TheVariants.{Announce, Withdraw}
use Rattle.rtr_units.specs.End.{EndMeaning}
use Rattle.rtr_payload.specs.Payloads.{Meaning, Payload}
use Rattle.rtr_payload.specs.Units.{IsUnit}
use Rattle.data_memory.specs.Changes.{after_all}
use Rattle.data_memory.specs.Data.{Change, after}
use Rattle.data_memory.specs.Deltas.{unit_of}
use Rattle.data_memory.specs.declared.change_error.ChangeError.{ChangeError}
use Rattle.data_memory.specs.declared.change_error.ChangeError.TheVariants.{Duplicate, Unknown}
use Rattle.data_slices.specs.Apply.{data_form}
use Rattle.data_slices.specs.Canonical.{HoldsData, PlacesFront}
use Rattle.data_slices.specs.InOrder.{AreAllowed}
use Rattle.data_slices.specs.declared.at_offsets.AtFault.{AtFault}
use Rattle.data_slices.specs.declared.at_offsets.AtFault.TheVariants.{NoRoom, Refused}

-- at this offset in the input a unit begins, with this meaning
pub record HasUnit (input : List ℕ) (o : ℕ) (m : Meaning) : Type 0 where
  pub bytes : List ℕ
  pub left : List ℕ
  pub unit : IsUnit bytes m
  pub parts : drop o input ≡ bytes ++ left

-- units of the version begin there that make these changes
abbrev pub HaveUnits : (input : List ℕ) → (v : ℕ) → List ℕ → List Change → Type 0
HaveUnits input v [] [] = ⊤
HaveUnits input v [] (c ∷ cs) = ⊥
HaveUnits input v (o ∷ os) [] = ⊥
HaveUnits input v (o ∷ os) (c ∷ cs) = HasUnit input o (unit_of v c) × HaveUnits input v os cs

-- a unit of this version may come where a version is required, if any is
abbrev pub IsOf : Option ℕ → ℕ → Type 0
IsOf None v = ⊤
IsOf (Some w) v = w ≡ v

-- ---- offsets, each with the change of its unit

-- all are above this offset
abbrev pub Over : ℕ → List (ℕ × Change) → Type 0
Over n xs = AllByRecursion (λ (y : ℕ × Change). n < y.0) xs

-- offsets that rise
abbrev pub Up : List (ℕ × Change) → Type 0
Up [] = ⊤
Up (x ∷ xs) = Over x.0 xs × Up xs

abbrev pub offsets_of : List (ℕ × Change) → List ℕ
offsets_of xs = map (λ (x : ℕ × Change). x.0) xs

abbrev pub made_by : List (ℕ × Change) → List Change
made_by xs = map (λ (x : ℕ × Change). x.1) xs

-- at these offsets, which rise, begin units of the version that make these changes
pub record LieAt (input : List ℕ) (v : ℕ) (xs : List (ℕ × Change)) : Type 0 where
  pub units : HaveUnits input v (offsets_of xs) (made_by xs)
  pub rising : Up xs

-- ---- what comes of them

-- why a change is refused that does this (RFC 8210 section 12)
abbrev pub why : Action → ChangeError
why Announce = Duplicate
why Withdraw = Unknown

-- the change at this offset, which does this, isn't allowed, and those before it are
pub record StoppedAt (xs : List (ℕ × Change)) (d : List Payload) (r : ℕ × Action) : Type 0 where
  pub before : List (ℕ × Change)
  pub c : Change
  pub later : List (ℕ × Change)
  pub parts : xs ≡ before ++ (r.0, c) ∷ later
  pub made : List Payload
  pub allowed : after_all (made_by before) (Ok d) ≡ Ok made
  pub wrong : after c made ≡ Err (why r.1)

-- the first that isn't allowed is this one, or all are allowed
abbrev pub FirstOf : Option (ℕ × Action) → List (ℕ × Change) → List Payload → Type 0
FirstOf None xs d = AreAllowed (made_by xs) d
FirstOf (Some r) xs d = StoppedAt xs d r

-- the slice is data of this version, or it is empty, for no payloads
abbrev pub IsBase : (v : ℕ) → (base : List ℕ) → List Payload → Type 0
IsBase v base d =
    ((base ≡ []) × (d ≡ []))
    ⊎ ((e : EndMeaning) × (e.version ≡ v) × HoldsData base d e)

-- The whole promise of a check: whatever the data and the changes are, the first that isn't allowed
-- was found.
abbrev pub ChecksAt : Option (ℕ × Action) → (base input os : List ℕ) → Type 0
ChecksAt r base input os =
    (v w : ℕ) (d : List Payload) (xs : List (ℕ × Change)) → IsBase w base d →
    os ≡ offsets_of xs → LieAt input v xs → FirstOf r xs d

-- of the data that the changes make this was written, which is data in canonical form
abbrev pub WritesMade : Option ℕ → List (ℕ × Change) → List Payload → EndMeaning →
    (before after : List ℕ) → Type 0
WritesMade n xs d e before after =
    (d' : List Payload) × (after_all (made_by xs) (Ok d) ≡ Ok d')
    × HoldsData (data_form d' e) d' e × PlacesFront n (data_form d' e) before after

abbrev pub MadeAt : Result ℕ AtFault → List (ℕ × Change) → List Payload → EndMeaning →
    (before after : List ℕ) → Type 0
MadeAt (Ok n) xs d e before after = WritesMade (Some n) xs d e before after
MadeAt (Err NoRoom) xs d e before after = WritesMade None xs d e before after
MadeAt (Err (Refused o a)) xs d e before after = StoppedAt xs d (o, a) × (after ≡ before)

-- The whole promise of a call: what all changes make of the data was written, and its length
-- answered; or there is no room for all of it, and a front of it was written; or the first change
-- that isn't allowed was found, and nothing written.
abbrev pub MakesAt : Result ℕ AtFault → (base input os : List ℕ) → EndMeaning →
    (before after : List ℕ) → Type 0
MakesAt r base input os e before after =
    (d : List Payload) (xs : List (ℕ × Change)) → IsBase e.version base d →
    os ≡ offsets_of xs → LieAt input e.version xs → MadeAt r xs d e before after

-- the offsets are those of such units
abbrev pub HaveLying : (input os : List ℕ) → (v : ℕ) → Type 0
HaveLying input os v =
    (xs : List (ℕ × Change)) × (os ≡ offsets_of xs) × LieAt input v xs
