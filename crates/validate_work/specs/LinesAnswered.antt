-- What answering routes that are read line by line leaves: this program's own.
--
-- A call takes lines from the front of its input, and writes the answer on the route of each before
-- it takes the next. A line that isn't a route is told, with its number and the reason, and passed
-- over; a strict run ends there. A call ends where the input does, or where the reader, the writer
-- or memory fails.
--
-- Lines that were read are a list, the newest first.
use Rattle.std.specs.Prelude.{◌≡◌, ◌⊎◌, ℕ, ◌+◌, ◌-◌, ◌^◌, ◌<◌, List, [], ◌∷◌, ◌++◌, length}
use Rattle.std.specs.Prelude.{⊤, Bool, true, false, Option, Some, None, Result, Ok, Err}
use Rattle.std.specs.Io.KnownBytes.{Appends, Consumes, IsAtEnd}
use Rattle.rtr_base.specs.Addresses.{PrefixParts}
use Rattle.rtr_base.specs.ReadTexts.{Lacks}
use Rattle.rtr_units.specs.StopCauses.{ReaderState, WriterState, Cause, by_reader, by_writer}
use Rattle.rtr_units.specs.StopCauses.{too_many, no_memory, by_cause, cause_of, reader_count}
use Rattle.rtr_units.specs.StopCauses.{writer_count}
use Rattle.rtr_units.specs.declared.fault.Fault.{Fault as UnitFault}
use Rattle.validate_work.specs.RefusedLines.{AreTold, RefusedLine}
use Rattle.validate_work.specs.TableTexts.{HasTableRoute, RefusesTable}
use Rattle.validate_work.specs.Turned.{IsListAnswer}
use Rattle.validate_work.specs.declared.form.Form.{Form}
use Rattle.validate_work.specs.declared.form.Formats.{Formats}
use Rattle.validate_work.specs.declared.lines.Stop.{Stop}
use Rattle.validate_work.specs.declared.lines.Stop.TheVariants.{Line, Fault}
use Rattle.validate_work.specs.declared.lists.Lists.{Lists}
use Rattle.validate_work.specs.declared.route_text.RouteError.{RouteError}
use Rattle.validate_work.specs.declared.route_text.TableRoute.{TableRoute}
use Rattle.validate_work.specs.declared.table.Table.{Table}

-- ---- lines

-- no line feed stands in it
abbrev pub IsLine : List ℕ → Type 0
IsLine line = Lacks 10 line

-- the bytes of these lines, in the order in which they came, each with its line feed
abbrev pub lines_bytes : List (List ℕ) → List ℕ
lines_bytes [] = []
lines_bytes (newest ∷ before) = lines_bytes before ++ (newest ++ 10 ∷ [])

-- these bytes are a line, up to its line feed or to the end of the input
abbrev pub EndsLine : (last line : List ℕ) → (left : Option (List ℕ)) → Type 0
EndsLine last line left =
    IsLine line × ((last ≡ line ++ 10 ∷ []) ⊎ ((last ≡ line) × IsAtEnd left))

-- ---- their answers

-- what is written of a line: nothing if it has no route, or else the answer on its route
abbrev pub IsLineAnswer : Formats → Lists → (line text : List ℕ) → Type 0
IsLineAnswer f d line text = (HasTableRoute f.table line None × (text ≡ []))
    ⊎ ((r : TableRoute) × HasTableRoute f.table line (Some r)
    × IsListAnswer f.form d r.prefix r.origin text)

-- the line of this number is refused, as this says
abbrev pub IsRefusedLine : Table → (number : ℕ) → (line : List ℕ) → RefusedLine → Type 0
IsRefusedLine table number line r = (r.number ≡ number) × RefusesTable table line r.error

-- What came of the line of this number: what is written of it, and nothing is told; or, unless the
-- run is strict, nothing is written, and it is told why it isn't a route.
abbrev pub IsLineDone : (strict : Bool) → Formats → Lists → (number : ℕ) →
    (line text : List ℕ) → (told : List RefusedLine) → Type 0
IsLineDone strict f d number line text [] = IsLineAnswer f d line text
IsLineDone strict f d number line text (r ∷ []) =
    (strict ≡ false) × IsRefusedLine f.table number line r × (text ≡ [])
IsLineDone strict f d number line text (newest ∷ r ∷ before) = ⊥

-- what is written of all these lines, in the order in which they came, and which of them are told
abbrev pub AreDone : (strict : Bool) → Formats → Lists → List (List ℕ) → (text : List ℕ) →
    (told : List RefusedLine) → Type 0
AreDone strict f d [] text told = (text ≡ []) × (told ≡ [])
AreDone strict f d (newest ∷ before) text told = (earlier last : List ℕ)
    × (heard since : List RefusedLine) × IsLine newest
    × AreDone strict f d before earlier heard
    × IsLineDone strict f d (length before + 1) newest last since
    × (text ≡ earlier ++ last) × (told ≡ since ++ heard)

-- ---- one answer

-- all of an answer was written; a part, where the writer failed; nothing, where memory ran out
abbrev pub WritesAnswerText : (IsText : List ℕ → Type 0) → Result (Unit {0}) Cause →
    (held holds : Option (List ℕ)) → Type 0
WritesAnswerText IsText (Ok x) held holds = (text : List ℕ) × IsText text × Appends held holds text
WritesAnswerText IsText (Err by_writer) held holds = (part missing : List ℕ)
    × IsText (part ++ missing) × (0 < length missing) × Appends held holds part
WritesAnswerText IsText (Err no_memory) held holds = Appends held holds []
WritesAnswerText IsText (Err cause) held holds = ⊥

-- the answer on a route was written so
abbrev pub AnswersRoute : Form → Lists → PrefixParts → (origin : Option ℕ) →
    Result (Unit {0}) UnitFault → (before after : WriterState) → Type 0
AnswersRoute form d p origin r before after =
    WritesAnswerText (IsListAnswer form d p origin) (by_cause r) before.held after.held
    × (after.failed ≡ writer_count (by_cause r) before.failed)

-- ---- how answering lines ends

-- Why no more lines were answered after these, and which part of the answer on the next was
-- written. `last` is what was taken of the input after the lines.
abbrev pub StopsAnswering : Cause → Formats → Lists → ℕ → (last : List ℕ) →
    (left : Option (List ℕ)) → (part : List ℕ) → Type 0
StopsAnswering by_reader f d count last left part = IsLine last × (part ≡ [])
StopsAnswering by_writer f d count last left part =
    (line missing : List ℕ) × EndsLine last line left
    × IsLineAnswer f d line (part ++ missing) × (0 < length missing)
StopsAnswering no_memory f d count last left part = part ≡ []
StopsAnswering too_many f d count last left part =
    (count ≡ 2 ^ 64 - 1) × (last ≡ []) × (part ≡ [])
StopsAnswering cause f d count last left part = ⊥

-- `told` are the refused lines after those that were read
abbrev pub EndsAnswering : (strict : Bool) → Result ℕ Stop → Formats → Lists → ℕ →
    (last : List ℕ) → (left : Option (List ℕ)) → (part : List ℕ) → (told : List RefusedLine) →
    Type 0
-- at the end of the input, after the last line, which has no line feed
EndsAnswering strict (Ok n) f d count last left part told =
    IsLine last × IsAtEnd left × IsLineDone strict f d (count + 1) last part told
-- in a strict run, at a line that is refused
EndsAnswering strict (Err (Line number error)) f d count last left part told =
    (strict ≡ true) × (number ≡ count + 1)
    × ((line : List ℕ) × EndsLine last line left × RefusesTable f.table line error)
    × (part ≡ []) × (told ≡ [])
EndsAnswering strict (Err (Fault e)) f d count last left part told =
    StopsAnswering (cause_of e) f d count last left part × (told ≡ [])

-- where the input ended, this many lines were refused
abbrev pub CountsRefused : Result ℕ Stop → List RefusedLine → Type 0
CountsRefused (Ok n) told = n ≡ length told
CountsRefused (Err stop) told = ⊤

-- the reader's count of failures after a call with this answer, where it was n before, and the
-- writer's
abbrev pub reads_after : Result ℕ Stop → ℕ → ℕ
reads_after (Ok x) n = n
reads_after (Err (Line number error)) n = n
reads_after (Err (Fault f)) n = reader_count {T = ℕ} (Err (cause_of f)) n

abbrev pub writes_after : Result ℕ Stop → ℕ → ℕ
writes_after (Ok x) n = n
writes_after (Err (Line number error)) n = n
writes_after (Err (Fault f)) n = writer_count {T = ℕ} (Err (cause_of f)) n

-- The whole promise: `old` and `new` are what the reader has before and after the call, `before`
-- and `after` the same of the writer, `deaf` and `heard` of whoever is told of refused lines.
pub record AnswersLines {T : Type 0} (Hears : T → RefusedLine → T → Type 0) (strict : Bool)
    (f : Formats) (d : Lists) (r : Result ℕ Stop) (old new : ReaderState)
    (before after : WriterState) (deaf heard : T) : Type 0 where
  -- it took these lines, and then some last bytes
  pub lines : List (List ℕ)
  pub last : List ℕ
  pub takes : Consumes old.left new.left (lines_bytes lines ++ last)
  -- it wrote the answers on the lines, and then this part of an answer
  pub text : List ℕ
  pub part : List ℕ
  pub writes : Appends before.held after.held (text ++ part)
  -- it told of these lines, and then of these
  pub told : List RefusedLine
  pub since : List RefusedLine
  pub done : AreDone strict f d lines text told
  pub tells : AreTold Hears (since ++ told) deaf heard
  -- so it ended
  pub ends : EndsAnswering strict r f d (length lines) last new.left part since
  pub counts : CountsRefused r (since ++ told)
  -- the reader and the writer are blamed exactly where their counts of failures rose
  pub reader_failures : new.failed ≡ reads_after r old.failed
  pub writer_failures : after.failed ≡ writes_after r before.failed
