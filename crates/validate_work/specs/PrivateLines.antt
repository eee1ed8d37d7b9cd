-- What the calls for one line leave. Only contracts of private functions cite these.
use Rattle.std.specs.Prelude.{◌≡◌, ℕ, Bool, true, List, [], ◌∷◌, ◌++◌, length}
use Rattle.std.specs.Prelude.{Option, Some, None, Result, Ok, Err}
use Rattle.std.specs.Io.KnownBytes.{Appends, Consumes, IsAtEnd}
use Rattle.rtr_units.specs.StopCauses.{ReaderState, WriterState, Cause, by_reader}
use Rattle.rtr_units.specs.StopCauses.{no_memory, by_cause, cause_of, reader_count, writer_count}
use Rattle.rtr_units.specs.declared.fault.Fault.{Fault}
use Rattle.validate_work.specs.LinesAnswered.{IsLine, IsLineAnswer, IsLineDone, WritesAnswerText}
use Rattle.validate_work.specs.RefusedLines.{AreTold, RefusedLine}
use Rattle.validate_work.specs.TableTexts.{RefusesTable}
use Rattle.validate_work.specs.declared.form.Formats.{Formats}
use Rattle.validate_work.specs.declared.lines.Ending.{Ending}
use Rattle.validate_work.specs.declared.lines.Ending.TheVariants.{Feed, Input}
use Rattle.validate_work.specs.declared.lines.Stop.{Stop}
use Rattle.validate_work.specs.declared.lines.Stop.TheVariants as stops
use Rattle.validate_work.specs.declared.lists.Lists.{Lists}

-- ---- reading

abbrev pub TakesByteBytes :
    Result (Option ℕ) Cause → Option (List ℕ) → Option (List ℕ) → Type 0
TakesByteBytes (Ok (Some b)) old new = Consumes old new (b ∷ [])
TakesByteBytes (Ok None) old new = Consumes old new [] × IsAtEnd new
TakesByteBytes (Err by_reader) old new = Consumes old new []
TakesByteBytes (Err cause) old new = ⊥

-- the next byte, or the input ended, or the reader failed
abbrev pub TakesByte : Result (Option ℕ) Fault → ReaderState → ReaderState → Type 0
TakesByte r old new = TakesByteBytes (by_cause r) old.left new.left
    × (new.failed ≡ reader_count (by_cause r) old.failed)

abbrev pub TakesLineBytes :
    Result Ending Cause → List ℕ → Option (List ℕ) → Option (List ℕ) → Type 0
TakesLineBytes (Ok Feed) line old new = IsLine line × Consumes old new (line ++ 10 ∷ [])
TakesLineBytes (Ok Input) line old new = IsLine line × Consumes old new line × IsAtEnd new
TakesLineBytes (Err by_reader) line old new = IsLine line × Consumes old new line
TakesLineBytes (Err no_memory) line old new = (taken : List ℕ) × Consumes old new taken
TakesLineBytes (Err cause) line old new = ⊥

-- a line, or what came of it before the reader or memory failed
abbrev pub TakesLine : Result Ending Fault → List ℕ → ReaderState → ReaderState → Type 0
TakesLine r line old new = TakesLineBytes (by_cause r) line old.left new.left
    × (new.failed ≡ reader_count (by_cause r) old.failed)

-- ---- answering

-- the answer on the line of this number, or why it has none
abbrev pub AnswersLine : Formats → Lists → (number : ℕ) → (line : List ℕ) →
    Result (Unit {0}) Stop → WriterState → WriterState → Type 0
AnswersLine f d number line (Ok x) before after =
    WritesAnswerText (IsLineAnswer f d line) (Ok x) before.held after.held
    × (after.failed ≡ before.failed)
AnswersLine f d number line (Err (stops.Line told error)) before after =
    (told ≡ number) × RefusesTable f.table line error × (after ≡ before)
AnswersLine f d number line (Err (stops.Fault e)) before after =
    WritesAnswerText (IsLineAnswer f d line) (Err (cause_of e)) before.held after.held
    × (after.failed ≡ writer_count {T = ℕ} (Err (cause_of e)) before.failed)

-- the same of a line that is passed over if it isn't a route, unless the run is strict; the number
-- of lines that were reported, none or one, is the result
abbrev pub PassesLine : {T : Type 0} → (Hears : T → RefusedLine → T → Type 0) → (strict : Bool) →
    Formats → Lists → (number : ℕ) → (line : List ℕ) → Result ℕ Stop →
    WriterState → WriterState → (old new : T) → Type 0
PassesLine Hears strict f d number line (Ok n) before after old new =
    (text : List ℕ) × (told : List RefusedLine) × IsLineDone strict f d number line text told
    × Appends before.held after.held text × (after.failed ≡ before.failed)
    × AreTold Hears told old new × (n ≡ length told)
PassesLine Hears strict f d number line (Err (stops.Line told error)) before after old new =
    (strict ≡ true) × AnswersLine f d number line (Err (stops.Line told error)) before after
    × (new ≡ old)
PassesLine Hears strict f d number line (Err (stops.Fault e)) before after old new =
    AnswersLine f d number line (Err (stops.Fault e)) before after × (new ≡ old)
