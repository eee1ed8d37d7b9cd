-- What is said of strict runs: each line before the end was answered, and nothing is told.
use Rattle.std.proofs.Common.{◌≡◌, ℕ, ◌+◌, true, false, List, [], ◌∷◌, ◌++◌, length}
use Rattle.std.proofs.Common.{Option, Result, Ok, Err, refl, sym, ap, ◌∙◌, subst}
use Rattle.std.proofs.lemmas.Bool.{false≢true}
use Rattle.std.specs.Io.KnownBytes.{Appends, Consumes, IsAtEnd}
use Rattle.rtr_units.specs.StopCauses.{ReaderState, WriterState, cause_of}
use Rattle.validate_work.specs.LinesAnswered.{AnswersLines, AreDone, CountsRefused, EndsLine}
use Rattle.validate_work.specs.LinesAnswered.{IsLine}
use Rattle.validate_work.specs.LinesAnswered.{EndsAnswering}
use Rattle.validate_work.specs.LinesAnswered.{IsLineAnswer, IsLineDone, StopsAnswering, lines_bytes}
use Rattle.validate_work.specs.LinesAnswered.{reads_after, writes_after}
use Rattle.validate_work.specs.RefusedLines.{AreTold, RefusedLine}
use Rattle.validate_work.specs.TableTexts.{RefusesTable}
use Rattle.validate_work.specs.declared.form.Formats.{Formats}
use Rattle.validate_work.specs.declared.lines.Stop.{Stop}
use Rattle.validate_work.specs.declared.lines.Stop.TheVariants as stops
use Rattle.validate_work.specs.declared.lists.Lists.{Lists}

-- what is written of all these lines, in the order in which they came
abbrev AreAnswered : Formats → Lists → List (List ℕ) → (text : List ℕ) → Type 0
AreAnswered fs d [] text = text ≡ []
AreAnswered fs d (newest ∷ before) text = (earlier last : List ℕ) × IsLine newest
    × AreAnswered fs d before earlier × IsLineAnswer fs d newest last
    × (text ≡ earlier ++ last)

abbrev EndsStrictly : Result ℕ Stop → Formats → Lists → ℕ → (last : List ℕ) →
    (left : Option (List ℕ)) → (part : List ℕ) → Type 0
-- at the end of the input, after the answer on the last line, which has no line feed
EndsStrictly (Ok n) fs d count last left part =
    (n ≡ 0) × IsLine last × IsAtEnd left × IsLineAnswer fs d last part
-- at a line that is refused
EndsStrictly (Err (stops.Line number error)) fs d count last left part =
    (number ≡ count + 1)
    × ((line : List ℕ) × EndsLine last line left × RefusesTable fs.table line error)
    × (part ≡ [])
EndsStrictly (Err (stops.Fault f)) fs d count last left part =
    StopsAnswering (cause_of f) fs d count last left part

record AnswersStrictly (fs : Formats) (d : Lists) (r : Result ℕ Stop)
    (old new : ReaderState) (before after : WriterState) : Type 0 where
  lines : List (List ℕ)
  last : List ℕ
  takes : Consumes old.left new.left (lines_bytes lines ++ last)
  text : List ℕ
  part : List ℕ
  answered : AreAnswered fs d lines text
  writes : Appends before.held after.held (text ++ part)
  ends : EndsStrictly r fs d (length lines) last new.left part
  reader_failures : new.failed ≡ reads_after r old.failed
  writer_failures : after.failed ≡ writes_after r before.failed

answer_alone : (fs : Formats) (d : Lists) (n : ℕ) (line text : List ℕ)
    (told : List RefusedLine) → IsLineDone true fs d n line text told →
    IsLineAnswer fs d line text × (told ≡ [])
answer_alone fs d n line text [] h = (h, refl)
answer_alone fs d n line text (r ∷ []) (e, is, none) = absurd (false≢true (sym e))
answer_alone fs d n line text (r ∷ s ∷ more) h = absurd h

answers_alone : (fs : Formats) (d : Lists) (lines : List (List ℕ)) (text : List ℕ)
    (told : List RefusedLine) → AreDone true fs d lines text told →
    AreAnswered fs d lines text × (told ≡ [])
answers_alone fs d [] text told (none, e) = (none, e)
answers_alone fs d (newest ∷ before) text told
    (earlier, last, heard, since, is, done, one, parts, both) =
    let (all, e) = answers_alone fs d before earlier heard done in
    let (answer, f) = answer_alone fs d (length before + 1) newest last since one in (
      (earlier, last, is, all, answer, parts),
      both ∙ ap (λ (l : List RefusedLine). l ++ heard) f ∙ e,
    )

ends_alone : (r : Result ℕ Stop) (fs : Formats) (d : Lists) (n : ℕ) (last : List ℕ)
    (left : Option (List ℕ)) (part : List ℕ) (since told : List RefusedLine) → told ≡ [] →
    EndsAnswering true r fs d n last left part since →
    CountsRefused r (since ++ told) →
    EndsStrictly r fs d n last left part × (since ≡ [])
ends_alone (Ok k) fs d n last left part since told e (is, end, done) counts =
    let (answer, f) = answer_alone fs d (n + 1) last part since done in (
      (
        counts ∙ ap (λ (l : List RefusedLine). length l)
            (ap (λ (l : List RefusedLine). l ++ told) f ∙ e),
        is,
        end,
        answer,
      ),
      f,
    )
ends_alone (Err (stops.Line number error)) fs d n last left part since told e
    (strict, tells, refuses, none, alone) counts = ((tells, refuses, none), alone)
ends_alone (Err (stops.Fault f)) fs d n last left part since told e (stops, alone) counts =
    (stops, alone)

strict_run : {T : Type 0} (Hears : T → RefusedLine → T → Type 0) (fs : Formats)
    (d : Lists) (r : Result ℕ Stop) (old new : ReaderState) (before after : WriterState)
    (deaf heard : T) → AnswersLines Hears true fs d r old new before after deaf heard →
    AnswersStrictly fs d r old new before after × (heard ≡ deaf)
strict_run Hears fs d r old new before after deaf heard h =
    let (answered, e) = answers_alone fs d h.lines h.text h.told h.done in
    let (ends, f) = ends_alone r fs d (length h.lines) h.last new.left h.part h.since h.told e
    h.ends h.counts in (
      record {
        lines = h.lines;
        last = h.last;
        takes = h.takes;
        text = h.text;
        part = h.part;
        answered = answered;
        writes = h.writes;
        ends = ends;
        reader_failures = h.reader_failures;
        writer_failures = h.writer_failures;
      },
      subst (λ (l : List RefusedLine). AreTold Hears l deaf heard)
          (ap (λ (l : List RefusedLine). l ++ h.told) f ∙ e) h.tells,
    )
