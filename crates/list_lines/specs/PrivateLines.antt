-- What printing the lines of one unit leaves: this program's own. Only contracts of private
-- functions cite these.
use Rattle.std.specs.Prelude.{◌≡◌, ℕ, ◌+◌, ◌-◌, ◌^◌, List, length, min, ⊤}
use Rattle.std.specs.Prelude.{Bool, Option, Result, Ok, Err}
use Rattle.std.specs.Io.KnownBytes.{Appends}
use Rattle.std.specs.List.{concat}
use Rattle.rtr_units.specs.declared.fault.Fault.{Fault}
use Rattle.rtr_units.specs.StopCauses.{by_cause, cause_of}
use Rattle.rtr_units.specs.StopCauses.{WriterState, writer_count}
use Rattle.unit_any.specs.AnyFields.{AnyFields}
use Rattle.list_lines.specs.PrivateFollowing.{HasSeen}
use Rattle.list_lines.specs.Listing.{BreaksOff, UnitLines, tells_broken}
use Rattle.list_lines.specs.declared.check.Checker.{Checker}
use Rattle.list_lines.specs.declared.line.Failed.{Failed}
use Rattle.list_lines.specs.declared.run.Wanted.{Wanted}
use Rattle.list_lines.specs.declared.run.Wanted.TheVariants.{Text, Json, Findings}

-- the answer of a call that keeps its fault apart
abbrev pub returned : {T : Type 0} → Result T Failed → Fault → Result T Fault
returned (Ok x) failure = Ok x
returned (Err failed) failure = Err failure

-- these lines of one unit were printed, with whether they report a broken rule, or printing
-- stopped
abbrev pub PrintsBytes :
    Wanted → List (List ℕ) → Result Bool Fault → Option (List ℕ) → Option (List ℕ) → Type 0
PrintsBytes what lines (Ok found) held holds =
    Appends held holds (concat lines) × (found ≡ tells_broken what lines)
PrintsBytes what lines (Err e) held holds =
    (part : List ℕ) × Appends held holds part × BreaksOff (cause_of e) lines part

abbrev pub Prints :
    Wanted → List (List ℕ) → Result Bool Fault → WriterState → WriterState → Type 0
Prints what lines r old new = PrintsBytes what lines r old.held new.held
    × (new.failed ≡ writer_count (by_cause r) old.failed)

-- the lines of this unit at this offset after those before were printed, or printing stopped
abbrev pub PrintsUnit : Wanted → ℕ → List AnyFields → AnyFields → Result Bool Fault →
    WriterState → WriterState → Type 0
PrintsUnit what offset before unit r old new = (lines : List (List ℕ))
    × UnitLines what offset before unit lines × Prints what lines r old new

-- the checker has seen these units, where broken rules are asked for
abbrev pub HasChecked : Wanted → Checker → List AnyFields → Type 0
HasChecked Text checker units = ⊤
HasChecked Json checker units = ⊤
HasChecked Findings checker units = HasSeen checker units

-- the number of bytes before the next unit, which stays at the greatest number of 64 bits
abbrev pub offset_after : ℕ → List ℕ → ℕ
offset_after offset unit = min (offset + length unit) (2 ^ 64 - 1)
