-- The serial numbers of the earlier data of a history (this library's own; which of them a router
-- may name: RFC 8210 sections 5.3 and 8.2).
use Rattle.std.specs.Prelude.{◌≡◌, ◌<◌, ◌≤◌, ◌*◌, ⊤, ℕ, List, Result, Ok, Err, Some, length, map}
use Rattle.data_slices.specs.Canonical.{PlacesFront}
use Rattle.data_history.specs.Snapshots.{Snapshot}
use Rattle.data_history.specs.declared.check.CheckFault.{CheckFault}
use Rattle.data_history.specs.declared.check.CheckFault.TheVariants.{Malformed, NoRoom}
use Rattle.data_history.specs.declared.room.Room.TheVariants.{Index, Buffer, Spare, Output}

-- those of these data
abbrev pub serials_of : List Snapshot → List ℕ
serials_of ys = map (λ (y : Snapshot). y.end.serial) ys

-- those of the earlier data were written, and their number is the result; or it is the wanted one,
-- and nothing was written
abbrev pub ListsSerials : Result ℕ CheckFault → List Snapshot → (before after : List ℕ) → Type 0
ListsSerials (Ok n) ys before after = PlacesFront (Some n) (serials_of ys) before after
ListsSerials (Err Malformed) ys before after = ⊥
ListsSerials (Err (NoRoom room w)) ys before after = (w ≡ length ys) × (after ≡ before)

-- The output, of o elements, is shorter than wanted, which is at most what suffices for n bytes.
abbrev pub IsShortForSerials : Result ℕ CheckFault → (n o : ℕ) → Type 0
IsShortForSerials (Ok m) n o = ⊤
IsShortForSerials (Err Malformed) n o = ⊤
IsShortForSerials (Err (NoRoom Index w)) n o = ⊥
IsShortForSerials (Err (NoRoom Buffer w)) n o = ⊥
IsShortForSerials (Err (NoRoom Spare w)) n o = ⊥
IsShortForSerials (Err (NoRoom Output w)) n o = (o < w) × (16 * w ≤ n)
