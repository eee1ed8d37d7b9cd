-- How bytes are checked. Only contracts of private functions cite these.
use Rattle.std.specs.Prelude.{◌≡◌, ◌<◌, ◌≤◌, ◌*◌, ◌^◌, ⊤, ℕ, List, Result, Ok, Err, take}
use Rattle.rtr_units.specs.End.{EndMeaning}
use Rattle.rtr_payload.specs.Payloads.{Payload}
use Rattle.data_memory.specs.Data.{Change}
use Rattle.data_slices.specs.InOrder.{AreAllowed}
use Rattle.data_slices.specs.Order.{Sends}
use Rattle.data_history.specs.Snapshots.{AreBehind, GoesBack, Snapshot, behind_by}
use Rattle.data_history.specs.declared.check.CheckFault.{CheckFault}
use Rattle.data_history.specs.declared.check.CheckFault.TheVariants.{Malformed, NoRoom}
use Rattle.data_history.specs.declared.room.Room.TheVariants.{Index, Buffer, Spare, Output}

-- a step may lead to data with this end, which are so far behind the newest
pub record MayBeNext (n : ℕ) (end newest : EndMeaning) (last : ℕ) : Type 0 where
  pub version : end.version ≡ newest.version
  pub session : end.session ≡ newest.session
  pub behind : n ≡ behind_by end.serial newest.serial
  pub further : last < n
  pub near : n < 2 ^ 31

-- the steps go back from the snapshot to some others, each further behind
abbrev pub AreSteps : List ℕ → Snapshot → Type 0
AreSteps b x = (ys : List Snapshot) × GoesBack b x ys × AreBehind x.end.serial 0 ys

-- the bytes make changes, of the version and session of the snapshot, which its data allow if and
-- only if the steps go back from it
pub record AllJoined (b joined : List ℕ) (x : Snapshot) : Type 0 where
  pub changes : List Change
  pub end : EndMeaning
  pub sends : Sends joined changes end
  pub version : x.end.version ≡ end.version
  pub session : x.end.session ≡ end.session
  pub goes : AreAllowed changes x.payloads → AreSteps b x
  pub allowed : AreSteps b x → AreAllowed changes x.payloads

abbrev pub JoinsAll : Result ℕ CheckFault → (b : List ℕ) → (x : Snapshot) → (after : List ℕ) →
    Type 0
JoinsAll (Ok n) b x after = AllJoined b (take n after) x
JoinsAll (Err Malformed) b x after = AreSteps b x → ⊥
JoinsAll (Err (NoRoom room wanted)) b x after = ⊤

abbrev pub Allows : Result Unit CheckFault → List Change → List Payload → Type 0
Allows (Ok t) cs d = AreAllowed cs d
Allows (Err Malformed) cs d = AreAllowed cs d → ⊥
Allows (Err (NoRoom room wanted)) cs d = ⊤

-- they are no longer than the steps and fit into the buffer; or the buffer is shorter than the
-- steps
abbrev pub IsShortForSteps : Result ℕ CheckFault → (steps have : ℕ) → Type 0
IsShortForSteps (Ok n) s h = (n ≤ s) × (n ≤ h)
IsShortForSteps (Err Malformed) s h = ⊤
IsShortForSteps (Err (NoRoom Index w)) s h = ⊥
IsShortForSteps (Err (NoRoom Buffer w)) s h = (w ≡ s) × (h < s)
IsShortForSteps (Err (NoRoom Spare w)) s h = ⊥
IsShortForSteps (Err (NoRoom Output w)) s h = ⊥

-- the index is too short for changes of this many bytes
abbrev pub LacksIndex : Result Unit CheckFault → (changes places : ℕ) → Type 0
LacksIndex (Ok t) c p = ⊤
LacksIndex (Err Malformed) c p = ⊤
LacksIndex (Err (NoRoom Index w)) c p = (12 * w ≤ c) × (p < w)
LacksIndex (Err (NoRoom Buffer w)) c p = ⊥
LacksIndex (Err (NoRoom Spare w)) c p = ⊥
LacksIndex (Err (NoRoom Output w)) c p = ⊥
