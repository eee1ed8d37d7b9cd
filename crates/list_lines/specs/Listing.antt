-- What a run reads and prints. All but the units is this program's own.
--
-- A run takes units from the front of its input and prints, for each before it takes the next, one
-- line, or a line of each rule that the unit breaks. It ends where the input does, at its first
-- fault, or where the reader, the writer or memory fails.
--
-- Units that were read are a list, the newest first.
use Rattle.std.specs.Prelude.{◌≡◌, ℕ, ◌-◌, ◌^◌, ◌<◌, List, [], ◌∷◌, ◌++◌, length, map, min, nat_lt}
use Rattle.std.specs.Prelude.{Bool, false, Option, Result, Ok, Err, ◌⊎◌}
use Rattle.std.specs.Io.KnownBytes.{Consumes, Appends, IsAtEnd}
use Rattle.std.specs.List.{AllByRecursion, concat}
use Rattle.rtr_units.specs.declared.fault.Fault.{Fault}
use Rattle.rtr_units.specs.StopCauses.{Cause, by_reader, by_writer, too_many, no_memory, wrong}
use Rattle.rtr_units.specs.StopCauses.{by_cause}
use Rattle.rtr_units.specs.StopCauses.{ReaderState, WriterState, reader_count, writer_count}
use Rattle.unit_any.specs.AnyFields.{AnyFields, HasAnyFields, any_list}
use Rattle.unit_any.specs.AnyReading.{StopsInAny}
use Rattle.text_findings.specs.FindingTexts.{finding_of}
use Rattle.text_lines.specs.JsonLines.{unit_json}
use Rattle.list_lines.specs.Lines.{written_line}
use Rattle.text_findings.specs.Rules.{end_findings, findings}
use Rattle.text_lines.specs.TextLines.{unit_text}
use Rattle.text_findings.specs.declared.finding.Finding.{Finding}
use Rattle.list_lines.specs.declared.run.Wanted.{Wanted}
use Rattle.list_lines.specs.declared.run.Wanted.TheVariants.{Text, Json, Findings}

-- ---- units

-- the bytes of these units, in the order in which they came
abbrev pub units_bytes : List AnyFields → List ℕ
units_bytes [] = []
units_bytes (newest ∷ before) = units_bytes before ++ any_list newest

-- the fields of each fit their places
abbrev pub AreAnyUnits : List AnyFields → Type 0
AreAnyUnits = AllByRecursion (λ unit. HasAnyFields (any_list unit) unit)

-- ---- their lines

-- the number of bytes before the unit that comes after these, which stays at 2^64 - 1 above that
abbrev pub offset_of : List AnyFields → ℕ
offset_of units = min (length (units_bytes units)) (2 ^ 64 - 1)

-- a line of each of these broken rules of the unit at this offset
abbrev pub finding_lines : ℕ → List Finding → List (List ℕ)
finding_lines offset broken = map (λ finding. written_line (finding_of offset finding)) broken

-- what is printed of a unit at this offset that comes after those before: its line for people, its
-- line of JSON, or a line of each rule that it breaks
abbrev pub UnitLines : Wanted → ℕ → List AnyFields → AnyFields → List (List ℕ) → Type 0
UnitLines Text offset before unit lines = lines ≡ written_line (unit_text offset unit) ∷ []
UnitLines Json offset before unit lines = lines ≡ written_line (unit_json offset unit) ∷ []
UnitLines Findings offset before unit lines =
    lines ≡ finding_lines offset (findings before unit)

-- these are the lines of all these units, in the order in which they came
abbrev pub Printed : Wanted → List AnyFields → List (List ℕ) → Type 0
Printed what [] lines = lines ≡ []
Printed what (newest ∷ before) lines = (earlier last : List (List ℕ))
    × Printed what before earlier × UnitLines what (offset_of before) before newest last
    × (lines ≡ earlier ++ last)

-- what is printed at the end of the input, after all these units
abbrev pub end_lines : Wanted → List AnyFields → List (List ℕ)
end_lines Text units = []
end_lines Json units = []
end_lines Findings units = finding_lines (offset_of units) (end_findings units)

-- whether these lines report a broken rule: whether there is one, where such are asked for
abbrev pub tells_broken : Wanted → List (List ℕ) → Bool
tells_broken Text lines = false
tells_broken Json lines = false
tells_broken Findings lines = nat_lt 0 (length lines)

-- ---- how printing stops

-- of these lines the first ones were written, and then the first bytes of the next, but not all
pub record StopsInside (lines : List (List ℕ)) (written : List ℕ) : Type 0 where
  pub whole : List (List ℕ)
  pub part : List ℕ
  pub missing : List ℕ
  pub others : List (List ℕ)
  pub lines_are : lines ≡ whole ++ (part ++ missing) ∷ others
  pub misses : 0 < length missing
  pub written_is : written ≡ concat whole ++ part

-- of these lines the first ones were written, but not all
pub record StopsBetween (lines : List (List ℕ)) (written : List ℕ) : Type 0 where
  pub whole : List (List ℕ)
  pub next : List ℕ
  pub others : List (List ℕ)
  pub lines_are : lines ≡ whole ++ next ∷ others
  pub written_is : written ≡ concat whole

-- Why not all of these lines were written, and which bytes of them were: the writer fails inside a
-- line; memory runs out before all of them, or before one.
abbrev pub BreaksOff : Cause → List (List ℕ) → List ℕ → Type 0
BreaksOff by_writer lines written = StopsInside lines written
BreaksOff no_memory lines written = (written ≡ []) ⊎ StopsBetween lines written
BreaksOff cause lines written = ⊥

-- the lines of the units before the newest were written, and those of the newest not all
abbrev pub PrintsPart : Wanted → Cause → List AnyFields → List ℕ → Type 0
PrintsPart what cause [] written = ⊥
PrintsPart what cause (newest ∷ before) written =
    (earlier last : List (List ℕ)) × (part : List ℕ) × Printed what before earlier
    × UnitLines what (offset_of before) before newest last × BreaksOff cause last part
    × (written ≡ concat earlier ++ part)

-- the lines of all units were written, and those at the end of the input not all
abbrev pub PrintsLastPart : Wanted → Cause → List AnyFields → Option (List ℕ) → List ℕ → Type 0
PrintsLastPart what cause units left written = IsAtEnd left
    × ((lines : List (List ℕ)) × (part : List ℕ) × Printed what units lines
    × BreaksOff cause (end_lines what units) part × (written ≡ concat lines ++ part))

-- ---- a run

-- all lines of these units were written
abbrev pub PrintsAll : Wanted → List AnyFields → List ℕ → Type 0
PrintsAll what units written =
    (lines : List (List ℕ)) × Printed what units lines × (written ≡ concat lines)

-- and those at the end of the input, and they report a broken rule, or don't
abbrev pub PrintsToTheEnd : Wanted → Bool → List AnyFields → List ℕ → Type 0
PrintsToTheEnd what found units written = (lines : List (List ℕ)) × Printed what units lines
    × (written ≡ concat (lines ++ end_lines what units))
    × (found ≡ tells_broken what (lines ++ end_lines what units))

-- How a run ended, by the answer: which bytes it took after the units, what it left of the input,
-- and what it wrote.
abbrev pub ListingEnds : Wanted → Result Bool Cause → List AnyFields → List ℕ → Option (List ℕ) →
    List ℕ → Type 0
-- at the end of the input
ListingEnds what (Ok found) units rest left written =
    (rest ≡ []) × IsAtEnd left × PrintsToTheEnd what found units written
-- by the reader's error, inside a unit or before one
ListingEnds what (Err by_reader) units rest left written =
    StopsInAny by_reader rest left × PrintsAll what units written
-- by the writer's error, inside a line
ListingEnds what (Err by_writer) units rest left written =
    (rest ≡ []) × (PrintsPart what by_writer units written
    ⊎ PrintsLastPart what by_writer units left written)
-- at the most units that are read
ListingEnds what (Err too_many) units rest left written =
    (length units ≡ 2 ^ 64 - 1) × (rest ≡ []) × PrintsAll what units written
-- out of memory, for lines or for a unit, inside which reading stopped then
ListingEnds what (Err no_memory) units rest left written =
    ((rest ≡ []) × (PrintsPart what no_memory units written
    ⊎ PrintsLastPart what no_memory units left written))
    ⊎ (StopsInAny no_memory rest left × PrintsAll what units written)
-- at a fault of the input
ListingEnds what (Err (wrong fault)) units rest left written =
    StopsInAny (wrong fault) rest left × PrintsAll what units written

-- The whole promise of a run: `old` and `new` are what the reader has before and after it, `before`
-- and `after` what the writer has.
pub record Lists (what : Wanted) (answer : Result Bool Fault) (old new : ReaderState)
    (before after : WriterState) : Type 0 where
  -- it took units, the newest first here, and then some bytes
  pub units : List AnyFields
  pub rest : List ℕ
  pub are_units : AreAnyUnits units
  pub takes : Consumes old.left new.left (units_bytes units ++ rest)
  -- it wrote their lines
  pub written : List ℕ
  pub writes : Appends before.held after.held written
  pub ends : ListingEnds what (by_cause answer) units rest new.left written
  -- the reader is blamed exactly where its count of failures rose, and the writer where its count
  -- did
  pub reader_failures : new.failed ≡ reader_count (by_cause answer) old.failed
  pub writer_failures : after.failed ≡ writer_count (by_cause answer) before.failed
