-- What comes of a file of the form before, which has a history behind its head (this library's
-- own).
use Rattle.std.specs.Prelude.{◌≡◌, ◌<◌, ◌++◌, ℕ, List, Result, Ok, Err, Some, drop, length}
use Rattle.data_slices.specs.Canonical.{PlacesFront}
use Rattle.data_history.specs.Parts.{head_bytes}
use Rattle.data_history.specs.Seal.{old_head}
use Rattle.data_history.specs.declared.check.CheckFault.{CheckFault}
use Rattle.data_history.specs.declared.check.CheckFault.TheVariants.{Malformed, NoRoom}
use Rattle.data_history.specs.declared.room.Room.TheVariants.{Index, Buffer, Spare, Output}

-- the head of the file is that of what follows it
abbrev pub IsOldFile : List ℕ → Type 0
IsOldFile file = file ≡ old_head (drop 16 file) ++ drop 16 file

-- The store of its history and of no sessions was written, and what follows is as it was; or the
-- file isn't whole, or the output, which is too short, wants as many bytes as the file has, and
-- nothing was written.
abbrev pub OpensOld : Result ℕ CheckFault → (file before after : List ℕ) → Type 0
OpensOld (Ok n) file before after =
    IsOldFile file × (n ≡ length file)
    × PlacesFront (Some n) (head_bytes 0 0 ++ drop 16 file) before after
OpensOld (Err Malformed) file before after = (IsOldFile file → ⊥) × (after ≡ before)
OpensOld (Err (NoRoom Index w)) file before after = ⊥
OpensOld (Err (NoRoom Buffer w)) file before after = ⊥
OpensOld (Err (NoRoom Spare w)) file before after = ⊥
OpensOld (Err (NoRoom Output w)) file before after =
    IsOldFile file × (w ≡ length file) × (length before < w) × (after ≡ before)
