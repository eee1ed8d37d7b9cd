-- What answers a serial query (RFC 8210 section 8.2).
use Rattle.std.specs.Prelude.{◌≡◌, ◌<◌, ◌≤◌, ◌+◌, ◌*◌, ⊤, ℕ, List, Option, Some, None, Result, Ok}
use Rattle.std.specs.Prelude.{Err}
use Rattle.rtr_wire.specs.Sequences.{end_for}
use Rattle.data_memory.specs.Deltas.{data_for}
use Rattle.data_slices.specs.Canonical.{PlacesFront}
use Rattle.data_slices.specs.Delta.{delta_form}
use Rattle.data_history.specs.Snapshots.{Snapshot}
use Rattle.data_history.specs.declared.room.Room.TheVariants.{Index, Buffer, Spare, Output}
use Rattle.data_history.specs.declared.since.SinceFault.{SinceFault}
use Rattle.data_history.specs.declared.since.SinceFault.TheVariants.{Unknown, UnitVersion}
use Rattle.data_history.specs.declared.since.SinceFault.TheVariants.{Malformed}
use Rattle.data_history.specs.declared.since.SinceFault.TheVariants.{NoRoom}

-- The whole promise of an answer in a version, by the snapshot that the router has, if it is kept,
-- and the present one: the changes from what the version has of the one to what it has of the
-- other were written, and their length returned; or there is no room for all of them, and perhaps a
-- front was written; or the snapshot isn't kept, or the version is none, and nothing was written.
abbrev pub WritesChangesSince : (version : ℕ) → Result ℕ SinceFault → Option Snapshot →
    (present : Snapshot) → (before after : List ℕ) → Type 0
WritesChangesSince v (Ok n) (Some y) x before after =
    PlacesFront (Some n) (delta_form (data_for v y.payloads) (data_for v x.payloads)
    (end_for v x.end)) before after
WritesChangesSince v (Ok n) None x before after = ⊥
WritesChangesSince v (Err Unknown) o x before after = (o ≡ None) × (after ≡ before)
WritesChangesSince v (Err UnitVersion) o x before after = (2 < v) × (after ≡ before)
WritesChangesSince v (Err Malformed) o x before after = ⊥
WritesChangesSince v (Err (NoRoom room wanted)) o x before after = ⊤

-- The slice that is named is shorter than wanted, which is at most what suffices for a history of n
-- bytes: these are the lengths of the slices.
abbrev pub IsShortForAnswer : Result ℕ SinceFault → (n index buffer spare output : ℕ) → Type 0
IsShortForAnswer (Ok m) n i b s o = ⊤
IsShortForAnswer (Err Unknown) n i b s o = ⊤
IsShortForAnswer (Err UnitVersion) n i b s o = ⊤
IsShortForAnswer (Err Malformed) n i b s o = ⊤
IsShortForAnswer (Err (NoRoom Index w)) n i b s o = (i < w) × (12 * w ≤ n)
IsShortForAnswer (Err (NoRoom Buffer w)) n i b s o = (b < w) × (w ≡ 2 * n)
IsShortForAnswer (Err (NoRoom Spare w)) n i b s o = (s < w) × (w ≡ n)
IsShortForAnswer (Err (NoRoom Output w)) n i b s o = (o < w) × (w ≤ 2 * n + 12)
