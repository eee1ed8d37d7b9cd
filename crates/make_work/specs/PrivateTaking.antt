-- What gathering leaves of items, and what is made of it. Only contracts of private functions cite
-- these.
use Rattle.std.specs.Prelude.{◌≡◌, ℕ, Bool, List, [], ◌∷◌, ◌++◌, ◌⊎◌, Option, Result}
use Rattle.rtr_units.specs.StopCauses.{WriterState}
use Rattle.rtr_payload.specs.Payloads.{Payload}
use Rattle.data_slurm.specs.Entries.{assertions_of}
use Rattle.make_work.specs.Gathering.{Gathers}
use Rattle.make_work.specs.MakeStatus.{MakesItems, MakesOf, time_asked}
use Rattle.make_work.specs.Making.{version_number}
use Rattle.make_work.specs.Taking.{AreAsserted, HasTaken, HoldsLeft, IsFor, entries_asked}
use Rattle.make_work.specs.declared.gathering.Gathered.{Gathered}
use Rattle.make_work.specs.declared.gathering.Gathering.{Gathering}
use Rattle.make_work.specs.declared.gathering.Left.{Left}
use Rattle.make_work.specs.declared.item.Item.{Item}
use Rattle.make_work.specs.declared.item.Refusal.{Refusal}
use Rattle.make_work.specs.declared.words.Request.{Request}

-- what is held of items is held of these and one more
pub record GathersOne (x : Item) (old new : Gathering) : Type 0 where
  pub version : new.version ≡ old.version
  pub leaves : new.leaves_out ≡ old.leaves_out
  pub times : new.times ≡ old.times
  pub slurm : new.slurm ≡ old.slurm
  pub held : (left : List Item) →
      HoldsLeft old.version old.leaves_out left old.payloads old.refused →
      HoldsLeft old.version old.leaves_out (left ++ x ∷ []) new.payloads new.refused

-- items are gathered of which all is held
abbrev pub EndsGathering : ℕ → List Payload → Option Refusal → Result Gathered Refusal → Type 0
EndsGathering v d refused r = (leaves_out : Bool) (left : List Item) →
    HoldsLeft v leaves_out left d refused → Gathers v leaves_out left r

-- of whatever items these are left, their sequence is made
abbrev pub MakesOfLeft : Request → Left → ℕ → WriterState → WriterState →
    (old new : Option (List ℕ)) → Type 0
MakesOfLeft a l status before after old new = (items : List Item) →
    Gathers (version_number a.version) a.leaves_out items l.gathered →
    MakesOf a l.expired items status before after old new

-- the gathering is for a request
abbrev pub IsAskedFor : (now : ℕ) → Request → Gathering → Type 0
IsAskedFor now a g = IsFor (version_number a.version) a.leaves_out (time_asked now a) g

-- whatever items were taken for a request, their sequence is made
abbrev pub MakesTaken : Request → Gathering → ℕ → WriterState → WriterState →
    (old new : Option (List ℕ)) → Type 0
MakesTaken a g status before after old new = (now : ℕ) (items : List Item) → HasTaken items g →
    IsAskedFor now a g → MakesItems now a items status before after old new

-- whatever items were taken for a request, and the assertions after them, their sequence is made
abbrev pub MakesAsserted : Request → Gathering → ℕ → WriterState → WriterState →
    (old new : Option (List ℕ)) → Type 0
MakesAsserted a g status before after old new = (now : ℕ) (items : List Item) →
    HasTaken items g → IsAskedFor now a g → ((more : List Item)
    × AreAsserted (assertions_of (entries_asked g.slurm)) more
    × MakesItems now a (items ++ more) status before after old new)
    ⊎ ((after ≡ before) × (status ≡ 3))
