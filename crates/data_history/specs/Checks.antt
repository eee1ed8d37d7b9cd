-- Whether bytes are a history (this library's own).
use Rattle.std.specs.Prelude.{◌≡◌, ◌<◌, ◌≤◌, ◌*◌, ⊤, ℕ, List, Result, Ok, Err}
use Rattle.rtr_units.specs.AnyEnd.{end_meaning}
use Rattle.rtr_units.specs.declared.end.EndOfData.{EndOfData}
use Rattle.data_history.specs.Snapshots.{Snapshot, HoldsHistory}
use Rattle.data_history.specs.declared.check.CheckFault.{CheckFault}
use Rattle.data_history.specs.declared.check.CheckFault.TheVariants.{Malformed, NoRoom}
use Rattle.data_history.specs.declared.room.Room.TheVariants.{Index, Buffer, Spare, Output}

-- they are, and this is the end of the present data; or they aren't; or a slice was too short to
-- see
abbrev pub ChecksHistory : Result EndOfData CheckFault → List ℕ → Type 0
ChecksHistory (Ok end) b =
    (x : Snapshot) × (ys : List Snapshot) × HoldsHistory b x ys × (end_meaning end ≡ x.end)
ChecksHistory (Err Malformed) b = (x : Snapshot) (ys : List Snapshot) → HoldsHistory b x ys → ⊥
ChecksHistory (Err (NoRoom room wanted)) b = ⊤

-- The slice that is named is shorter than wanted, which is at most what suffices for n bytes: these
-- are the lengths of the slices.
abbrev pub IsShortForCheck : Result EndOfData CheckFault → (n index buffer : ℕ) → Type 0
IsShortForCheck (Ok end) n i b = ⊤
IsShortForCheck (Err Malformed) n i b = ⊤
IsShortForCheck (Err (NoRoom Index w)) n i b = (i < w) × (12 * w ≤ n)
IsShortForCheck (Err (NoRoom Buffer w)) n i b = (b < w) × (w ≤ n)
IsShortForCheck (Err (NoRoom Spare w)) n i b = ⊥
IsShortForCheck (Err (NoRoom Output w)) n i b = ⊥
