-- Steps back, joined to one list of changes. Only contracts of private functions cite these.
use Rattle.std.specs.Prelude.{◌≡◌, ◌<◌, ◌≤◌, ◌+◌, ◌*◌, ⊤, ℕ, List, Option, Some, None, Result, Ok}
use Rattle.std.specs.Prelude.{Err, take}
use Rattle.data_memory.specs.Changes.{after_all}
use Rattle.data_memory.specs.Data.{Change}
use Rattle.data_slices.specs.Canonical.{HoldsData}
use Rattle.data_slices.specs.Order.{Sends}
use Rattle.data_history.specs.Snapshots.{AreAlike, Snapshot}
use Rattle.data_history.specs.declared.room.Room.TheVariants.{Index, Buffer, Spare, Output}
use Rattle.data_history.specs.declared.since.SinceFault.{SinceFault}
use Rattle.data_history.specs.declared.since.SinceFault.TheVariants.{Unknown, UnitVersion}
use Rattle.data_history.specs.declared.since.SinceFault.TheVariants.{Malformed}
use Rattle.data_history.specs.declared.since.SinceFault.TheVariants.{NoRoom}

-- the bytes are units that make changes, in this order, which lead from the one snapshot to the
-- other, and its end of data
pub record JoinedTo (b : List ℕ) (x y : Snapshot) : Type 0 where
  pub changes : List Change
  pub sends : Sends b changes y.end
  pub leads : after_all changes (Ok x.payloads) ≡ Ok y.payloads
  pub alike : AreAlike x y

-- the changes to the wanted snapshot were written; or there is no such snapshot
abbrev pub Joins : Result ℕ SinceFault → Option Snapshot → (x : Snapshot) → (after : List ℕ) →
    Type 0
Joins (Ok n) (Some y) x after = JoinedTo (take n after) x y
Joins (Ok n) None x after = ⊥
Joins (Err Unknown) o x after = o ≡ None
Joins (Err Malformed) o x after = ⊥
Joins (Err UnitVersion) o x after = ⊥
Joins (Err (NoRoom room wanted)) o x after = ⊤

-- they are no longer than the steps and fit into the buffer; or the buffer is shorter than the
-- steps
abbrev pub LacksBuffer : Result ℕ SinceFault → (steps have : ℕ) → Type 0
LacksBuffer (Ok n) s h = (n ≤ s) × (n ≤ h)
LacksBuffer (Err Unknown) s h = ⊤
LacksBuffer (Err Malformed) s h = ⊤
LacksBuffer (Err UnitVersion) s h = ⊤
LacksBuffer (Err (NoRoom Index w)) s h = ⊥
LacksBuffer (Err (NoRoom Buffer w)) s h = (w ≡ s) × (h < s)
LacksBuffer (Err (NoRoom Spare w)) s h = ⊥
LacksBuffer (Err (NoRoom Output w)) s h = ⊥

-- the data of the snapshot were written; or the index or the output is too short
abbrev pub Returns : Result ℕ SinceFault → (y : Snapshot) → (after : List ℕ) → Type 0
Returns (Ok n) y after = HoldsData after y.payloads y.end
Returns (Err Unknown) y after = ⊥
Returns (Err Malformed) y after = ⊥
Returns (Err UnitVersion) y after = ⊥
Returns (Err (NoRoom room wanted)) y after = ⊤

abbrev pub LacksSpare : Result ℕ SinceFault → (changes wanted places have : ℕ) → Type 0
LacksSpare (Ok n) c w p h = ⊤
LacksSpare (Err Unknown) c w p h = ⊤
LacksSpare (Err Malformed) c w p h = ⊤
LacksSpare (Err UnitVersion) c w p h = ⊤
LacksSpare (Err (NoRoom Index m)) c w p h = (12 * m ≤ c) × (p < m)
LacksSpare (Err (NoRoom Buffer m)) c w p h = ⊥
LacksSpare (Err (NoRoom Spare m)) c w p h = (m ≡ w) × (h < m)
LacksSpare (Err (NoRoom Output m)) c w p h = ⊥

-- the buffer is too short for the delta, or the output for what is told
abbrev pub LacksOutput : Result ℕ SinceFault → (wanted have out : ℕ) → Type 0
LacksOutput (Ok n) w h o = ⊤
LacksOutput (Err Unknown) w h o = ⊤
LacksOutput (Err Malformed) w h o = ⊤
LacksOutput (Err UnitVersion) w h o = ⊤
LacksOutput (Err (NoRoom Index m)) w h o = ⊥
LacksOutput (Err (NoRoom Buffer m)) w h o = (m ≡ w) × (h < m)
LacksOutput (Err (NoRoom Spare m)) w h o = ⊥
LacksOutput (Err (NoRoom Output m)) w h o = (m ≤ w + 12) × (o < m)

-- the same fault, where a slice is wanted that is this long
abbrev pub grown : SinceFault → (wanted : ℕ) → SinceFault
grown (NoRoom room m) w = NoRoom room w
grown Unknown w = Unknown
grown UnitVersion w = UnitVersion
grown Malformed w = Malformed
