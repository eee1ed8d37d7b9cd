-- Which words ask for a summary, and how a run that prints one ends: this program's own.
--
-- A run takes units from the front of its input, up to its end or to the first fault, and then
-- prints the summary of all of them at once. What stopped reading before the end decides the
-- status, and the summary says that it isn't complete.
use Rattle.std.specs.Prelude.{◌≡◌, ◌⊎◌, ℕ, ◌-◌, ◌^◌, Bool, false, List, [], ◌∷◌, ◌++◌, length}
use Rattle.std.specs.Prelude.{Option, Result, Ok, Err, is_ok, codes, bytes_eq}
use Rattle.std.specs.Prelude.{String, string_bytes}
use Rattle.std.specs.Io.KnownBytes.{Consumes, IsAtEnd}
use Rattle.rtr_units.specs.StopCauses.{Cause, too_many, by_cause, reader_count}
use Rattle.rtr_units.specs.StopCauses.{ReaderState, WriterState}
use Rattle.rtr_units.specs.declared.fault.Fault.{Fault}
use Rattle.unit_any.specs.AnyFields.{AnyFields}
use Rattle.unit_any.specs.AnyReading.{StopsInAny}
use Rattle.list_lines.specs.Listing.{AreAnyUnits, units_bytes}
use Rattle.list_lines.specs.ListStatus.{read_status}
use Rattle.program_frame.specs.Questions.{WritesText}
use Rattle.list_summary.specs.Summaries.{summary_text}

-- the one word, alone
abbrev pub summary_by_words : {Z : Type 0} → List (String Z) → Bool
summary_by_words (word ∷ []) = bytes_eq (string_bytes word) (codes "--summary")
summary_by_words others = false

-- how reading ended after these units: at the end of the input, after the most units that are read,
-- or inside a unit, of which the bytes in `rest` were taken
abbrev pub UnitsEnd : Result (Unit {0}) Cause → List AnyFields → List ℕ → Option (List ℕ) → Type 0
UnitsEnd (Ok x) units rest left = (rest ≡ []) × IsAtEnd left
UnitsEnd (Err too_many) units rest left = (length units ≡ 2 ^ 64 - 1) × (rest ≡ [])
UnitsEnd (Err cause) units rest left = StopsInAny cause rest left

-- units were read, the newest first here, and then reading ended so
pub record ReadsUnits (reading : Result (Unit {0}) Fault) (units : List AnyFields)
    (old new : ReaderState) : Type 0 where
  pub rest : List ℕ
  pub are_units : AreAnyUnits units
  pub takes : Consumes old.left new.left (units_bytes units ++ rest)
  pub ends : UnitsEnd (by_cause reading) units rest new.left
  -- the reader is blamed exactly where its count of failures rose
  pub reader_failures : new.failed ≡ reader_count (by_cause reading) old.failed

-- The whole promise of a run: units are read, and then their summary is printed, or nothing where
-- memory fails. `old` and `new` are what the reader has before and after it, `before` and `after`
-- what the writer has.
pub record Summarises (status : ℕ) (old new : ReaderState) (before after : WriterState)
    : Type 0 where
  pub units : List AnyFields
  pub reading : Result (Unit {0}) Fault
  pub reads : ReadsUnits reading units old new
  pub prints :
      WritesText (summary_text (is_ok reading) units) (read_status (by_cause reading)) 3 status
      before after ⊎ ((status ≡ 3) × (after ≡ before))
