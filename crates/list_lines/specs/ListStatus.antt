-- What the words after the program's name ask for, and how a run ends: this program's own.
use Rattle.std.specs.Prelude.{◌≡◌, ℕ, Bool, true, false, Result, Ok, Err, List, [], ◌∷◌}
use Rattle.std.specs.Prelude.{Option, Some, None, codes, bytes_eq, if◌then◌else◌}
use Rattle.std.specs.Prelude.{String, string_bytes}
use Rattle.rtr_units.specs.declared.fault.Fault.{Fault}
use Rattle.rtr_units.specs.StopCauses.{Cause, wrong, by_cause, ReaderState, WriterState}
use Rattle.rtr_units.specs.Stream.{Flushes}
use Rattle.list_lines.specs.Listing.{Lists}
use Rattle.list_lines.specs.declared.run.Wanted.{Wanted}
use Rattle.list_lines.specs.declared.run.Wanted.TheVariants.{Text, Json, Findings}

-- Lines for people without words, JSON with `--json`, broken rules with `--check`. All other words
-- ask for nothing.
abbrev pub wanted_by_words : {Z : Type 0} → List (String Z) → Option Wanted
wanted_by_words [] = Some Text
wanted_by_words (word ∷ []) =
    if bytes_eq (string_bytes word) (codes "--json") then Some Json else
    if bytes_eq (string_bytes word) (codes "--check") then Some Findings else None
wanted_by_words others = None

-- the status of a call that ended, 0, or stopped: 1 at a fault of the input, 3 otherwise
abbrev pub read_status : {T : Type 0} → Result T Cause → ℕ
read_status (Ok x) = 0
read_status (Err (wrong fault)) = 1
read_status (Err cause) = 3

-- the same of a run that lists, and 1 where it ended and a rule was found broken
abbrev pub listing_status : Result Bool Cause → ℕ
listing_status (Ok true) = 1
listing_status answer = read_status answer

-- whether a last line on standard error says how many units were looked at
abbrev pub counts_units : Wanted → Bool
counts_units Text = false
counts_units Json = false
counts_units Findings = true

-- A run of what is asked for, then one flush of the output. Where that succeeded, the run decides
-- the status, and else it is 3.
abbrev pub Runs : Wanted → ℕ → ReaderState → ReaderState → WriterState → WriterState → Type 0
Runs what status old new before after =
    (answer : Result Bool Fault) × (flushed : Bool) × (mid : WriterState)
    × Lists what answer old new before mid × Flushes flushed mid after
    × (status ≡ (if flushed then listing_status (by_cause answer) else 3))
