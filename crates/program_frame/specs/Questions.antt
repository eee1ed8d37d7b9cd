-- What a program is asked about itself, and how it writes a text: these programs' own.
use Rattle.std.specs.Prelude.{◌≡◌, ℕ, Bool, ◌&&◌, is_ok, Option, Some, None, List, [], ◌∷◌}
use Rattle.std.specs.Prelude.{codes, bytes_eq, if◌then◌else◌, Result}
use Rattle.std.specs.Prelude.{String, string_bytes}
use Rattle.rtr_units.specs.Stream.{Flushes, PutsForm}
use Rattle.rtr_units.specs.StopCauses.{WriterState}
use Rattle.rtr_units.specs.declared.fault.Fault.{Fault}
use Rattle.program_frame.specs.declared.questions.Manual.{Manual}
use Rattle.program_frame.specs.declared.questions.Question.{Question}
use Rattle.program_frame.specs.declared.questions.Question.TheVariants.{Help, Version}

-- one of the two words, alone
abbrev pub asked_of : {Z : Type 0} → List (String Z) → Option Question
asked_of (word ∷ []) =
    if bytes_eq (string_bytes word) (codes "--help") then Some Help else
    if bytes_eq (string_bytes word) (codes "--version") then Some Version else None
asked_of others = None

-- the text that is asked for
abbrev pub manual_text : Manual → Question → List ℕ
manual_text manual Help = manual.help.now
manual_text manual Version = manual.version.now

-- ---- texts that programs write

-- the text was written, or a front of it, and then the writer failed; then the output was flushed
-- once; the status is `well` where both succeeded, and else `failed`
pub record WritesText (text : List ℕ) (well failed status : ℕ) (before after : WriterState)
    : Type 0 where
  pub answer : Result (Unit {0}) Fault
  pub flushed : Bool
  pub mid : WriterState
  pub writes : PutsForm answer before mid text
  pub flushes : Flushes flushed mid after
  pub by_both : status ≡ (if is_ok answer && flushed then well else failed)
