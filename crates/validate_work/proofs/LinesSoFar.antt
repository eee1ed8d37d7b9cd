-- Lines that are read and answered one after the other.
use Rattle.std.proofs.Common.{◌≡◌, ◌≢◌, ℕ, ◌+◌, ◌-◌, ◌^◌, zero, suc, List, [], ◌∷◌, ◌++◌}
use Rattle.std.proofs.Common.{length, Option, Some, Result, Ok, Err, refl, sym, ap, ◌∙◌, arith}
use Rattle.std.proofs.Common.{subst}
use Rattle.std.proofs.Common.{Bool, true, false, append-nil, length-append, inl, inr}
use Rattle.std.specs.Io.KnownBytes.{Appends, Consumes}
use Rattle.std.proofs.KnownBytes.{Appends-nil, Appends-trans, Consumes-nil, Consumes-trans}
use Rattle.rtr_base.specs.Addresses.{PrefixParts}
use Rattle.rtr_base.specs.ReadTexts.{Lacks}
use Rattle.rtr_units.specs.StopCauses.{ReaderState, WriterState, Cause, by_reader, by_writer}
use Rattle.rtr_units.specs.StopCauses.{too_many, no_memory, wrong, by_cause, cause_of}
use Rattle.rtr_units.specs.StopCauses.{reader_count}
use Rattle.rtr_units.specs.StopCauses.{writer_count}
use Rattle.rtr_units.specs.Stream.{PutsForm, StopsWriting, WritesPart}
use Rattle.rtr_units.specs.declared.fault.Fault.{Fault}
use Rattle.rtr_units.specs.declared.fault.Fault.TheVariants as faults
use Rattle.validate_work.specs.LinesAnswered.{AnswersLines, AnswersRoute, AreDone, EndsLine}
use Rattle.validate_work.specs.LinesAnswered.{IsLine, IsLineAnswer, IsLineDone, StopsAnswering}
use Rattle.validate_work.specs.LinesAnswered.{WritesAnswerText, lines_bytes}
use Rattle.validate_work.specs.PrivateLines.{AnswersLine, PassesLine, TakesLine, TakesLineBytes}
use Rattle.validate_work.specs.RefusedLines.{AreTold, RefusedLine}
use Rattle.validate_work.specs.TableTexts.{HasTableRoute}
use Rattle.validate_work.specs.Turned.{IsListAnswer}
use Rattle.validate_work.specs.declared.form.Form.{Form}
use Rattle.validate_work.specs.declared.form.Formats.{Formats}
use Rattle.validate_work.specs.declared.lines.Ending.{Ending}
use Rattle.validate_work.specs.declared.lines.Ending.TheVariants.{Feed, Input}
use Rattle.validate_work.specs.declared.lines.Stop.{Stop}
use Rattle.validate_work.specs.declared.lines.Stop.TheVariants as stops
use Rattle.validate_work.specs.declared.lists.Lists.{Lists}
use Rattle.validate_work.specs.declared.route_text.RouteError.{RouteError}
use Rattle.validate_work.specs.declared.route_text.TableRoute.{TableRoute}

-- ---- who is told

pub told_more : {T : Type 0} (Hears : T → RefusedLine → T → Type 0) (since told : List RefusedLine)
    (a b c : T) → AreTold Hears told a b → AreTold Hears since b c →
    AreTold Hears (since ++ told) a c
told_more Hears [] told a b c before is = subst (AreTold Hears told a) (sym is) before
told_more Hears (r ∷ since) told a b c before (mid, heard, hears) =
    (mid, told_more Hears since told a b mid before heard, hears)

-- a line that is told is done
pub tells_line : {T : Type 0} (Hears : T → RefusedLine → T → Type 0) (strict : Bool) (fs : Formats)
    (d : Lists) (number : ℕ) (line : List ℕ) (told : ℕ) (error : RouteError)
    (before after : WriterState) (old new : T) → strict ≡ false →
    AnswersLine fs d number line (Err (stops.Line told error)) before after →
    Hears old (record { number = told; error = error }) new →
    PassesLine Hears strict fs d number line (Ok 1) before after old new
tells_line Hears strict fs d number line told error before after old new goes
    (is, refuses, same) hears = (
      [],
      record { number = told; error = error } ∷ [],
      (goes, (is, refuses), refl),
      subst (λ (w : WriterState). Appends before.held w.held []) (sym same)
          (Appends-nil before.held),
      ap (λ (w : WriterState). w.failed) same,
      (old, refl, hears),
      refl,
    )

-- n lines were read, and k of them told
pub record LinesSoFar {T : Type 0} (Hears : T → RefusedLine → T → Type 0) (strict : Bool)
    (fs : Formats) (d : Lists) (n k : ℕ) (old new held holds : Option (List ℕ))
    (deaf heard : T) : Type 0 where
  pub lines : List (List ℕ)
  pub took : Consumes old new (lines_bytes lines)
  pub counted : length lines ≡ n
  pub text : List ℕ
  pub told : List RefusedLine
  pub done : AreDone strict fs d lines text told
  pub wrote : Appends held holds text
  pub hears : AreTold Hears told deaf heard
  pub refused : length told ≡ k

pub starts : {T : Type 0} (Hears : T → RefusedLine → T → Type 0) (strict : Bool) (fs : Formats)
    (d : Lists) (a h : Option (List ℕ)) (t : T) →
    LinesSoFar Hears strict fs d 0 0 a a h h t t
starts Hears strict fs d a h t = record {
  lines = [];
  took = Consumes-nil a;
  counted = refl;
  text = [];
  told = [];
  done = (refl, refl);
  wrote = Appends-nil h;
  hears = refl;
  refused = refl;
}

length_both : (a b : List RefusedLine) (m k : ℕ) → length b ≡ k → m ≡ length a →
    length (a ++ b) ≡ k + m
length_both a b m k e f = length-append a b ∙ omega (arith, e, f)

pub goes_on : {T : Type 0} (Hears : T → RefusedLine → T → Type 0) (strict : Bool) (fs : Formats)
    (d : Lists) (n k m : ℕ) (line text : List ℕ) (since : List RefusedLine)
    (a b c h i j : Option (List ℕ)) (t u v : T) → LinesSoFar Hears strict fs d n k a b h i t u →
    IsLine line → Consumes b c (line ++ 10 ∷ []) →
    IsLineDone strict fs d (n + 1) line text since → Appends i j text →
    AreTold Hears since u v → m ≡ length since →
    LinesSoFar Hears strict fs d (n + 1) (k + m) a c h j t v
goes_on Hears strict fs d n k m line text since a b c h i j t u v s is took done wrote hears e =
    record {
      lines = line ∷ s.lines;
      took = Consumes-trans a b c (lines_bytes s.lines) (line ++ 10 ∷ []) s.took took;
      counted = omega (arith, s.counted);
      text = s.text ++ text;
      told = since ++ s.told;
      done = (
        s.text,
        text,
        s.told,
        since,
        is,
        s.done,
        subst (λ q. IsLineDone strict fs d (q + 1) line text since) (sym s.counted) done,
        refl,
        refl,
      );
      wrote = Appends-trans h i j s.text text s.wrote wrote;
      hears = told_more Hears since s.told t u v s.hears hears;
      refused = length_both since s.told m k s.refused e;
    }

-- ---- how it ends

pub reads_same : (S T : Type 0) (c : Cause) (n : ℕ) →
    reader_count {T = S} (Err c) n ≡ reader_count {T = T} (Err c) n
reads_same S T by_reader n = refl
reads_same S T by_writer n = refl
reads_same S T too_many n = refl
reads_same S T no_memory n = refl
reads_same S T (wrong r) n = refl

-- what was taken after the lines where reading one stopped
abbrev StopsInLine : Formats → Lists → ℕ → Cause → Option (List ℕ) → Option (List ℕ) → Type 0
StopsInLine fs d n cause b c = (last : List ℕ) × Consumes b c last
    × StopsAnswering cause fs d n last c [] × ((m : ℕ) → writer_count {T = ℕ} (Err cause) m ≡ m)

in_line : (fs : Formats) (d : Lists) (n : ℕ) (cause : Cause) (line : List ℕ)
    (b c : Option (List ℕ)) → TakesLineBytes (Err cause) line b c → StopsInLine fs d n cause b c
in_line fs d n by_reader line b c (is, took) = (line, took, (is, refl), λ m. refl)
in_line fs d n by_writer line b c h = absurd h
in_line fs d n too_many line b c h = absurd h
in_line fs d n no_memory line b c (taken, took) = (taken, took, refl, λ m. refl)
in_line fs d n (wrong r) line b c h = absurd h

-- what was written after the lines where answering one stopped
abbrev StopsInAnswer : Formats → Lists → ℕ → Cause → (last : List ℕ) →
    (left held holds : Option (List ℕ)) → Type 0
StopsInAnswer fs d n cause last left held holds = (part : List ℕ) × Appends held holds part
    × StopsAnswering cause fs d n last left part
    × ((m : ℕ) → reader_count {T = ℕ} (Err cause) m ≡ m)

in_answer : (fs : Formats) (d : Lists) (n : ℕ) (cause : Cause) (line last : List ℕ)
    (left held holds : Option (List ℕ)) → EndsLine last line left →
    WritesAnswerText (IsLineAnswer fs d line) (Err cause) held holds →
    StopsInAnswer fs d n cause last left held holds
in_answer fs d n by_reader line last left held holds ended h = absurd h
in_answer fs d n by_writer line last left held holds ended (part, missing, is, some, wrote) =
    (part, wrote, (line, missing, ended, is, some), λ m. refl)
in_answer fs d n too_many line last left held holds ended h = absurd h
in_answer fs d n no_memory line last left held holds ended wrote = ([], wrote, refl, λ m. refl)
in_answer fs d n (wrong r) line last left held holds ended h = absurd h

-- what was taken by a line that ended
abbrev pub TakesWhole : (line : List ℕ) → Option (List ℕ) → Option (List ℕ) → Type 0
TakesWhole line b c = (last : List ℕ) × Consumes b c last × EndsLine last line c

pub whole_line : (ending : Ending) (line : List ℕ) (b c : Option (List ℕ)) →
    TakesLineBytes (Ok ending) line b c → TakesWhole line b c
whole_line Feed line b c (is, took) = (line ++ 10 ∷ [], took, (is, inl refl))
whole_line Input line b c (is, took, end) = (line, took, (is, inr (refl, end)))

module _ {T : Type 0} (Hears : T → RefusedLine → T → Type 0) (strict : Bool) (fs : Formats)
    (d : Lists) (n k : ℕ) (old m : ReaderState) (before w : WriterState) (deaf t : T)
    (s : LinesSoFar Hears strict fs d n k old.left m.left before.held w.held deaf t)
    (reads : m.failed ≡ old.failed) (writes : w.failed ≡ before.failed) where
  pub stops_reading : (f : Fault) (line : List ℕ) (new : ReaderState) →
      TakesLine (Err f) line m new →
      AnswersLines Hears strict fs d (Err (stops.Fault f)) old new before w deaf t
  stops_reading f line new (bytes, count) =
      let (last, took, ends, kept) =
      in_line fs d (length s.lines) (cause_of f) line m.left new.left bytes in
      record {
        lines = s.lines;
        last = last;
        takes = Consumes-trans old.left m.left new.left (lines_bytes s.lines) last s.took took;
        text = s.text;
        part = [];
        writes = subst (Appends before.held w.held) (sym (append-nil s.text)) s.wrote;
        told = s.told;
        since = [];
        done = s.done;
        tells = s.hears;
        ends = (ends, refl);
        counts = tt;
        reader_failures = count ∙ reads_same Ending ℕ (cause_of f) m.failed
            ∙ ap (reader_count {T = ℕ} (Err (cause_of f))) reads;
        writer_failures = writes ∙ sym (kept before.failed);
      }

  pub stops_answering : (ending : Ending) (line : List ℕ) (number : ℕ) (stop : Stop)
      (new : ReaderState) (after : WriterState) (u : T) → TakesLine (Ok ending) line m new →
      PassesLine Hears strict fs d number line (Err stop) w after t u → number ≡ n + 1 →
      AnswersLines Hears strict fs d (Err stop) old new before after deaf u
  stops_answering ending line number (stops.Line told error) new after u (bytes, count)
      (is_strict, (tells, refuses, same), heard) is =
      let (last, took, ended) = whole_line ending line m.left new.left bytes in
      record {
        lines = s.lines;
        last = last;
        takes = Consumes-trans old.left m.left new.left (lines_bytes s.lines) last s.took took;
        text = s.text;
        part = [];
        writes = subst (λ (x : WriterState). Appends before.held x.held (s.text ++ [])) (sym same)
            (subst (Appends before.held w.held) (sym (append-nil s.text)) s.wrote);
        told = s.told;
        since = [];
        done = s.done;
        tells = subst (AreTold Hears s.told deaf) (sym heard) s.hears;
        ends = (
          is_strict,
          omega (arith, tells, is, s.counted),
          (line, ended, refuses),
          refl,
          refl,
        );
        counts = tt;
        reader_failures = count ∙ reads;
        writer_failures = ap (λ (x : WriterState). x.failed) same ∙ writes;
      }
  stops_answering ending line number (stops.Fault f) new after u (bytes, count)
      ((wrote, counts), heard) is =
      let (last, took, ended) = whole_line ending line m.left new.left bytes in
      let (part, puts, ends, kept) = in_answer fs d (length s.lines) (cause_of f) line last
      new.left w.held after.held ended wrote in
      record {
        lines = s.lines;
        last = last;
        takes = Consumes-trans old.left m.left new.left (lines_bytes s.lines) last s.took took;
        text = s.text;
        part = part;
        writes = Appends-trans before.held w.held after.held s.text part s.wrote puts;
        told = s.told;
        since = [];
        done = s.done;
        tells = subst (AreTold Hears s.told deaf) (sym heard) s.hears;
        ends = (ends, refl);
        counts = tt;
        reader_failures = count ∙ reads ∙ sym (kept old.failed);
        writer_failures = counts ∙ ap (writer_count {T = ℕ} (Err (cause_of f))) writes;
      }

  pub ends_well : (line : List ℕ) (number more total : ℕ) (new : ReaderState)
      (after : WriterState) (u : T) → TakesLine (Ok Input) line m new →
      PassesLine Hears strict fs d number line (Ok more) w after t u → number ≡ n + 1 →
      total ≡ k + more → AnswersLines Hears strict fs d (Ok total) old new before after deaf u
  ends_well line number more total new after u ((is, took, end), count)
      (text, since, done, wrote, counts, hears, many) e sums =
      record {
        lines = s.lines;
        last = line;
        takes = Consumes-trans old.left m.left new.left (lines_bytes s.lines) line s.took took;
        text = s.text;
        part = text;
        writes = Appends-trans before.held w.held after.held s.text text s.wrote wrote;
        told = s.told;
        since = since;
        done = s.done;
        tells = told_more Hears since s.told deaf t u s.hears hears;
        ends = (
          is,
          end,
          subst (λ q. IsLineDone strict fs d q line text since)
              (omega (arith, e, s.counted)) done,
        );
        counts = sums ∙ sym (length_both since s.told more k s.refused many);
        reader_failures = count ∙ reads;
        writer_failures = counts ∙ writes;
      }

  pub stops_at_last : n ≡ 2 ^ 64 - 1 →
      AnswersLines Hears strict fs d (Err (stops.Fault faults.TooMany)) old m before w deaf t
  stops_at_last last = record {
    lines = s.lines;
    last = [];
    takes = subst (Consumes old.left m.left) (sym (append-nil (lines_bytes s.lines))) s.took;
    text = s.text;
    part = [];
    writes = subst (Appends before.held w.held) (sym (append-nil s.text)) s.wrote;
    told = s.told;
    since = [];
    done = s.done;
    tells = s.hears;
    ends = ((s.counted ∙ last, refl, refl), refl);
    counts = tt;
    reader_failures = reads;
    writer_failures = writes;
  }

-- ---- one answer

stops_put : (IsText : List ℕ → Type 0) (e : Fault) (held holds : Option (List ℕ)) (text : List ℕ) →
    IsText text → WritesPart (StopsWriting e) held holds text →
    WritesAnswerText IsText (Err (cause_of e)) held holds
stops_put IsText (faults.Writer e) held holds text is (part, missing, wrote, parts, some, s) =
    (part, missing, subst IsText parts is, some, wrote)
stops_put IsText (faults.Reader e) held holds text is h = absurd h.5
stops_put IsText faults.Short held holds text is h = absurd h.5
stops_put IsText (faults.UnitType t) held holds text is h = absurd h.5
stops_put IsText faults.UnitLength held holds text is h = absurd h.5
stops_put IsText faults.TooLong held holds text is h = absurd h.5
stops_put IsText faults.EmptyProviders held holds text is h = absurd h.5
stops_put IsText (faults.UnitVersion v) held holds text is h = absurd h.5
stops_put IsText (faults.Refused r) held holds text is h = absurd h.5
stops_put IsText faults.TooMany held holds text is h = absurd h.5
stops_put IsText faults.Memory held holds text is h = absurd h.5

-- a text that was made is put
pub puts_text : (IsText : List ℕ → Type 0) (r : Result (Unit {0}) Fault)
    (before after : WriterState) (text piece : List ℕ) → IsText text → piece ≡ text →
    PutsForm r before after piece →
    WritesAnswerText IsText (by_cause r) before.held after.held
    × (after.failed ≡ writer_count (by_cause r) before.failed)
puts_text IsText (Ok x) before after text piece is same (wrote, count) =
    ((text, is, subst (Appends before.held after.held) same wrote), count)
puts_text IsText (Err e) before after text piece is same (part, count) =
    (stops_put IsText e before.held after.held piece (subst IsText (sym same) is) part, count)

-- an answer that was made is put
pub puts_answer : (form : Form) (d : Lists) (p : PrefixParts) (o : Option ℕ)
    (r : Result (Unit {0}) Fault) (before after : WriterState) (text piece : List ℕ) →
    IsListAnswer form d p o text → piece ≡ text → PutsForm r before after piece →
    AnswersRoute form d p o r before after
puts_answer form d p o (Ok x) before after text piece is same (wrote, count) =
    ((text, is, subst (Appends before.held after.held) same wrote), count)
puts_answer form d p o (Err e) before after text piece is same (part, count) = (
  stops_put (IsListAnswer form d p o) e before.held after.held piece
      (subst (IsListAnswer form d p o) (sym same) is) part,
  count,
)

-- what the answer on a route is of its line
line_answer : (fs : Formats) (d : Lists) (line : List ℕ) (p : PrefixParts)
    (o : Option ℕ) (c : Cause) (held holds : Option (List ℕ)) →
    ((text : List ℕ) → IsListAnswer fs.form d p o text → IsLineAnswer fs d line text) →
    WritesAnswerText (IsListAnswer fs.form d p o) (Err c) held holds →
    WritesAnswerText (IsLineAnswer fs d line) (Err c) held holds
line_answer fs d line p o by_reader held holds f h = absurd h
line_answer fs d line p o by_writer held holds f (part, missing, is, some, wrote) =
    (part, missing, f (part ++ missing) is, some, wrote)
line_answer fs d line p o too_many held holds f h = absurd h
line_answer fs d line p o no_memory held holds f h = h
line_answer fs d line p o (wrong r) held holds f h = absurd h

writes_same : (S T : Type 0) (c : Cause) (n : ℕ) →
    writer_count {T = S} (Err c) n ≡ writer_count {T = T} (Err c) n
writes_same S T by_reader n = refl
writes_same S T by_writer n = refl
writes_same S T too_many n = refl
writes_same S T no_memory n = refl
writes_same S T (wrong r) n = refl

pub stops_in_answer : (fs : Formats) (d : Lists) (number : ℕ) (line : List ℕ)
    (r : TableRoute) (e : Fault) (before after : WriterState) →
    HasTableRoute fs.table line (Some r) →
    AnswersRoute fs.form d r.prefix r.origin (Err e) before after →
    AnswersLine fs d number line (Err (stops.Fault e)) before after
stops_in_answer fs d number line r e before after is (wrote, count) = (
  line_answer fs d line r.prefix r.origin (cause_of e) before.held after.held
      (λ text a. inr (r, is, a)) wrote,
  count ∙ writes_same (Unit {0}) ℕ (cause_of e) before.failed,
)

-- ---- bytes of a line

pub lacks_more : (c b : ℕ) (xs : List ℕ) → Lacks c xs → b ≢ c → Lacks c (xs ++ b ∷ [])
lacks_more c b [] h n zero l = n
lacks_more c b [] h n (suc i) l = absurd (omega (arith, l))
lacks_more c b (x ∷ xs) h n zero l = h 0 (omega arith)
lacks_more c b (x ∷ xs) h n (suc i) l =
    lacks_more c b xs (λ j k. h (suc j) (omega (arith, k))) n i (omega (arith, l))
