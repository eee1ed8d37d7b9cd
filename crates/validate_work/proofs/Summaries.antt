-- How a summary ends, and that a run with status 0 told nobody of a line.
use Rattle.std.proofs.Common.{◌≡◌, ℕ, zero, suc, ◌+◌, List, [], ◌∷◌, ◌++◌, length, Bool, true}
use Rattle.std.proofs.Common.{Option, Some, None, Result, Ok, Err, refl, sym, ap, ◌∙◌, arith, inl}
use Rattle.std.proofs.Common.{false, inr, length-append, MatchBool}
use Rattle.std.proofs.lemmas.Bool.{ne_eqb}
use Rattle.rtr_units.specs.StopCauses.{ReaderState, WriterState}
use Rattle.data_validation.specs.declared.validity.Validity.{Validity}
use Rattle.data_validation.specs.declared.validity.Validity.TheVariants.{NotFound, Valid, Invalid}
use Rattle.validate_work.specs.LinesAnswered.{AnswersLines}
use Rattle.validate_work.specs.RefusedLines.{AreTold, RefusedLine}
use Rattle.validate_work.specs.RoutesCounted.{AreRoutesCounted, CountsLines, IsLineCounted}
use Rattle.validate_work.specs.RoutesCounted.{with_validity}
use Rattle.validate_work.specs.RoutesStatus.{AnswersAsked, SummarizesLines, answer_status}
use Rattle.validate_work.specs.RoutesStatus.{formats_of}
use Rattle.validate_work.specs.declared.counts.Counts.{Counts}
use Rattle.validate_work.specs.declared.counts.Summary.{Summary}
use Rattle.validate_work.specs.declared.lines.Stop.{Stop}
use Rattle.validate_work.specs.declared.lines.Stop.TheVariants as stops
use Rattle.validate_work.specs.declared.lists.Lists.{Lists}
use Rattle.validate_work.specs.declared.route_text.TableRoute.{TableRoute}
use Rattle.validate_work.specs.declared.table.Table.{Table}
use Rattle.validate_work.specs.declared.words.Options.{Options}

-- nothing is written of lines that weren't all counted
pub stops_summary : {T : Type 0} (Hears : T → RefusedLine → T → Type 0) (o : Options)
    (d : Lists) (stop : Stop) (old new : ReaderState) (before after : WriterState)
    (deaf heard : T) → CountsLines Hears o.strict o.table d (Err stop) old new deaf heard →
    after ≡ before → SummarizesLines Hears o d (Err stop) old new before after deaf heard
stops_summary Hears o d (stops.Line number error) old new before after deaf heard h same = (h, same)
stops_summary Hears o d (stops.Fault f) old new before after deaf heard h same = inl (h, same)

-- ---- so many lines were told as were refused

same_refused : (state : Validity) (c : Counts) → (with_validity state c).refused ≡ c.refused
same_refused Valid c = refl
same_refused Invalid c = refl
same_refused NotFound c = refl

line_refused : (strict : Bool) (table : Table) (d : Lists) (number : ℕ) (line : List ℕ)
    (before after : Summary) (told : List RefusedLine) →
    IsLineCounted strict table d number line before after told →
    after.counts.refused ≡ before.counts.refused + length told
line_refused strict table d number line before after [] (inl (has, e)) =
    ap (λ (s : Summary). s.counts.refused) e ∙ omega arith
line_refused strict table d number line before after [] (inr (r, has, (state, valid, e, kept))) =
    ap (λ (c : Counts). c.refused) e ∙ same_refused state before.counts ∙ omega arith
line_refused strict table d number line before after (r ∷ []) (goes, is, e) =
    ap (λ (s : Summary). s.counts.refused) e ∙ omega arith
line_refused strict table d number line before after (newest ∷ r ∷ told) h = absurd h

all_refused : (strict : Bool) (table : Table) (d : Lists) (lines : List (List ℕ))
    (c : Summary) (told : List RefusedLine) → AreRoutesCounted strict table d lines c told →
    c.counts.refused ≡ length told
all_refused strict table d [] c told (none, e) =
    ap (λ (x : Counts). x.refused) none.counts ∙ sym (ap (λ (l : List RefusedLine). length l) e)
all_refused strict table d (newest ∷ before) c told
    (earlier, heard, since, is, done, counted, e) =
    line_refused strict table d (length before + 1) newest earlier c since counted
    ∙ omega (
      arith,
      all_refused strict table d before earlier heard done,
      length-append since heard,
    )
    ∙ sym (ap (λ (l : List RefusedLine). length l) e)

none_told : {T : Type 0} (Hears : T → RefusedLine → T → Type 0) (told : List RefusedLine)
    (deaf heard : T) → length told ≡ 0 → AreTold Hears told deaf heard → heard ≡ deaf
none_told Hears [] deaf heard e h = h
none_told Hears (r ∷ told) deaf heard e h = absurd (omega (arith, e))

refused_status : (n : ℕ) → answer_status (Ok (suc n)) true ≡ 1
refused_status n = rw (ne_eqb (suc n) 0 (λ z. omega (arith, z))) refl

module _ {T : Type 0} (Hears : T → RefusedLine → T → Type 0) (o : Options) (d : Lists)
    (old new : ReaderState) (before after : WriterState) (deaf heard : T) where
  quiet_lines : (n : ℕ) → n ≡ 0 →
      AnswersLines Hears o.strict (formats_of o) d (Ok n) old new before after deaf heard →
      heard ≡ deaf
  quiet_lines n e h = none_told Hears (h.since ++ h.told) deaf heard (sym h.counts ∙ e) h.tells

  quiet_summary : (n : ℕ) → n ≡ 0 →
      SummarizesLines Hears o d (Ok n) old new before after deaf heard → heard ≡ deaf
  quiet_summary n e (c, counts, wrote, is) =
      let last = line_refused o.strict o.table d (length counts.lines + 1) counts.last
      counts.earlier c counts.since counts.ends.2 in
      let others = all_refused o.strict o.table d counts.lines counts.earlier counts.told
      counts.done in
      none_told Hears (counts.since ++ counts.told) deaf heard
      (omega (arith, e, is, last, others, length-append counts.since counts.told)) counts.tells

  quiet_by : (b : Bool) (n : ℕ) → n ≡ 0 →
      MatchBool b (SummarizesLines Hears o d (Ok n) old new before after deaf heard)
      (AnswersLines Hears o.strict (formats_of o) d (Ok n) old new before after deaf heard) →
      heard ≡ deaf
  quiet_by true n e h = quiet_summary n e h
  quiet_by false n e h = quiet_lines n e h

  pub quiet_asked : (route : Option TableRoute) (r : Result ℕ Stop) (flushed : Bool)
      (status : ℕ) → AnswersAsked Hears o route d r old new before after deaf heard →
      status ≡ answer_status r flushed → status ≡ 0 → heard ≡ deaf
  quiet_asked (Some route) (Ok n) flushed status h s e = h.1
  quiet_asked (Some route) (Err (stops.Line number error)) flushed status h s e = absurd h
  quiet_asked (Some route) (Err (stops.Fault f)) flushed status h s e = h.0
  quiet_asked None (Ok zero) true status h s e = quiet_by o.summary zero refl h
  quiet_asked None (Ok (suc n)) true status h s e =
      let one : status ≡ 1 = s ∙ refused_status n in absurd (omega (arith, one, e))
  quiet_asked None (Ok n) false status h s e = absurd (omega (arith, s, e))
  quiet_asked None (Err (stops.Line number error)) true status h s e =
      absurd (omega (arith, s, e))
  quiet_asked None (Err (stops.Line number error)) false status h s e =
      absurd (omega (arith, s, e))
  quiet_asked None (Err (stops.Fault f)) true status h s e = absurd (omega (arith, s, e))
  quiet_asked None (Err (stops.Fault f)) false status h s e = absurd (omega (arith, s, e))
