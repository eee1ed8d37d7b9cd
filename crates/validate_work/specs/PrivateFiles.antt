-- What is loaded of items that were taken. Only contracts of private functions cite these.
use Rattle.std.specs.Prelude.{◌≡◌, ◌⊎◌, ℕ, List, ◌++◌, Bool, Option, false, map, Result, Ok, Err}
use Rattle.rtr_payload.specs.Payloads.{Payload}
use Rattle.data_recordings.specs.declared.recording.Recording.{Recording}
use Rattle.data_slurm.specs.Entries.{assertions_of}
use Rattle.data_slurm.specs.declared.entry.Entry.{Entry}
use Rattle.make_work.specs.Gathering.{Gathers, item_payload}
use Rattle.make_work.specs.Taking.{AreAsserted, HasTaken, IsFor, TakesSome, entries_asked}
use Rattle.make_work.specs.declared.expiring.Expired.{Expired}
use Rattle.make_work.specs.declared.gathering.Gathered.{Gathered}
use Rattle.make_work.specs.declared.gathering.Gathering.{Gathering}
use Rattle.make_work.specs.declared.item.Item.{Item}
use Rattle.make_work.specs.declared.item.Refusal.{Refusal}
use Rattle.validate_work.specs.Files.{GathersRead, LoadsAt, LoadsKept}
use Rattle.validate_work.specs.declared.file.LoadError.{LoadError}
use Rattle.validate_work.specs.declared.file.LoadError.TheVariants as errors
use Rattle.validate_work.specs.declared.file.Loaded.{Loaded}

-- items of these payloads were taken
abbrev pub TakesPayloads : List Payload → Gathering → Gathering → Type 0
TakesPayloads ps old new = TakesSome (λ items. map item_payload items ≡ ps) old new

-- of whatever items this was gathered, their payloads are loaded
abbrev pub LoadsGathered : (has_cut : Bool) → Option Expired → Result Gathered Refusal →
    Result Loaded LoadError → Type 0
LoadsGathered cut e gathered r = (items : List Item) → Gathers 2 false items gathered →
    GathersRead cut e (Ok items) r

-- whatever items were taken, to gather their payloads at a time, if one is asked for, those that
-- are left are loaded
abbrev pub LoadsTaken : (has_cut : Bool) → Gathering → Result Loaded LoadError → Type 0
LoadsTaken cut g r = (at : Option ℕ) (items : List Item) → HasTaken items g → IsFor 2 false at g →
    LoadsAt cut at items r

-- the same with what SLURM files assert after them, unless memory ran out
abbrev pub LoadsAsserted : (has_cut : Bool) → Gathering → Result Loaded LoadError → Type 0
LoadsAsserted cut g r = (at : Option ℕ) (items : List Item) → HasTaken items g →
    IsFor 2 false at g → ((more : List Item)
    × AreAsserted (assertions_of (entries_asked g.slurm)) more × LoadsAt cut at (items ++ more) r)
    ⊎ (r ≡ Err errors.Memory)

-- what SLURM files leave of a recording, unless memory ran out
abbrev pub LoadsKeptOf : List Entry → Recording → Result Loaded LoadError → Type 0
LoadsKeptOf es recording r = LoadsKept es recording r ⊎ (r ≡ Err errors.Memory)
