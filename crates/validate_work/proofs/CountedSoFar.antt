-- Lines that are read and counted one after the other.
use Rattle.std.proofs.Common.{◌≡◌, ℕ, ◌+◌, ◌-◌, ◌^◌, zero, suc, List, [], ◌∷◌, ◌++◌, length}
use Rattle.std.proofs.Common.{Bool, Option, Result, Ok, Err, refl, sym, ap, ◌∙◌, subst, arith}
use Rattle.std.proofs.Common.{append-nil, inl, inr, Some, None, false, true}
use Rattle.std.specs.Io.KnownBytes.{Consumes}
use Rattle.std.proofs.KnownBytes.{Consumes-nil, Consumes-trans}
use Rattle.rtr_units.specs.StopCauses.{ReaderState, Cause, by_reader, by_writer, too_many}
use Rattle.rtr_units.specs.StopCauses.{no_memory, wrong, cause_of, reader_count}
use Rattle.rtr_units.specs.declared.fault.Fault.{Fault}
use Rattle.rtr_units.specs.declared.fault.Fault.TheVariants as faults
use Rattle.validate_work.specs.LinesAnswered.{EndsLine, IsLine, lines_bytes}
use Rattle.validate_work.specs.PrivateCounts.{CountsLine, CountsRoute}
use Rattle.validate_work.specs.PrivateLines.{TakesLine, TakesLineBytes}
use Rattle.validate_work.specs.RefusedLines.{AreTold, RefusedLine}
use Rattle.validate_work.specs.RoutesCounted.{AreRoutesCounted, CountsLines, IsLineCounted}
use Rattle.validate_work.specs.RoutesCounted.{IsEmptySummary, StopsCounting, refused_too}
use Rattle.validate_work.specs.TableTexts.{HasTableRoute, RefusesTable}
use Rattle.validate_work.specs.declared.counts.Summary.{Summary}
use Rattle.validate_work.specs.declared.lines.Ending.{Ending}
use Rattle.validate_work.specs.declared.lines.Ending.TheVariants.{Feed, Input}
use Rattle.validate_work.specs.declared.lines.Stop.{Stop}
use Rattle.validate_work.specs.declared.lines.Stop.TheVariants as stops
use Rattle.validate_work.specs.declared.lists.Lists.{Lists}
use Rattle.validate_work.specs.declared.route_text.RouteError.{RouteError}
use Rattle.validate_work.specs.declared.route_text.TableRoute.{TableRoute}
use Rattle.validate_work.specs.declared.table.Table.{Table}
use Rattle.validate_work.proofs.LinesSoFar.{reads_same, told_more, whole_line}

-- ---- one line

module _ {T : Type 0} (Hears : T → RefusedLine → T → Type 0) (strict : Bool) (table : Table)
    (d : Lists) (number : ℕ) (line : List ℕ) (before after : Summary) (old new : T) where
  pub counts_route : (r : TableRoute) → HasTableRoute table line (Some r) →
      CountsRoute d r before after → new ≡ old →
      CountsLine Hears strict table d number line before after (Ok tt) old new
  counts_route r has adds same = ([], inr (r, has, adds.counted), same)

  pub counts_none : HasTableRoute table line None → after ≡ before → new ≡ old →
      CountsLine Hears strict table d number line before after (Ok tt) old new
  counts_none has keeps same = ([], inl (has, keeps), same)

  pub counts_refused : (error : RouteError) → strict ≡ false → RefusesTable table line error →
      Hears old (record { number = number; error = error }) new → after ≡ refused_too before →
      CountsLine Hears strict table d number line before after (Ok tt) old new
  counts_refused error goes refuses hears adds = (
    record { number = number; error = error } ∷ [],
    (goes, (refl, refuses), adds),
    (old, refl, hears),
  )

-- ---- all lines

-- n lines were read, and have these counts
pub record CountedSoFar {T : Type 0} (Hears : T → RefusedLine → T → Type 0) (strict : Bool)
    (table : Table) (d : Lists) (n : ℕ) (c : Summary) (old new : Option (List ℕ))
    (deaf heard : T) : Type 0 where
  pub lines : List (List ℕ)
  pub took : Consumes old new (lines_bytes lines)
  pub counted : length lines ≡ n
  pub told : List RefusedLine
  pub done : AreRoutesCounted strict table d lines c told
  pub hears : AreTold Hears told deaf heard

pub starts : {T : Type 0} (Hears : T → RefusedLine → T → Type 0) (strict : Bool) (table : Table)
    (d : Lists) (c : Summary) (a : Option (List ℕ)) (t : T) → IsEmptySummary c →
    CountedSoFar Hears strict table d 0 c a a t t
starts Hears strict table d c a t none = record {
  lines = [];
  took = Consumes-nil a;
  counted = refl;
  told = [];
  done = (none, refl);
  hears = refl;
}

pub goes_on : {T : Type 0} (Hears : T → RefusedLine → T → Type 0) (strict : Bool) (table : Table)
    (d : Lists) (n : ℕ) (c e : Summary) (line : List ℕ) (since : List RefusedLine)
    (a b x : Option (List ℕ)) (t u v : T) → CountedSoFar Hears strict table d n c a b t u →
    IsLine line → Consumes b x (line ++ 10 ∷ []) →
    IsLineCounted strict table d (n + 1) line c e since → AreTold Hears since u v →
    CountedSoFar Hears strict table d (n + 1) e a x t v
goes_on Hears strict table d n c e line since a b x t u v s is took done hears = record {
  lines = line ∷ s.lines;
  took = Consumes-trans a b x (lines_bytes s.lines) (line ++ 10 ∷ []) s.took took;
  counted = omega (arith, s.counted);
  told = since ++ s.told;
  done = (
    c,
    s.told,
    since,
    is,
    s.done,
    subst (λ q. IsLineCounted strict table d (q + 1) line c e since) (sym s.counted) done,
    refl,
  );
  hears = told_more Hears since s.told t u v s.hears hears;
}

-- ---- how it ends

-- what was taken after the lines where reading one stopped
abbrev StopsLine : ℕ → Cause → Option (List ℕ) → Option (List ℕ) → Type 0
StopsLine n cause b x = (last : List ℕ) × Consumes b x last × StopsCounting cause n last

stops_line : (n : ℕ) (cause : Cause) (line : List ℕ) (b x : Option (List ℕ)) →
    TakesLineBytes (Err cause) line b x → StopsLine n cause b x
stops_line n by_reader line b x (is, took) = (line, took, is)
stops_line n by_writer line b x h = absurd h
stops_line n too_many line b x h = absurd h
stops_line n no_memory line b x (taken, took) = (taken, took, tt)
stops_line n (wrong r) line b x h = absurd h

module _ {T : Type 0} (Hears : T → RefusedLine → T → Type 0) (strict : Bool) (table : Table)
    (d : Lists) (n : ℕ) (c : Summary) (old m : ReaderState) (deaf t : T)
    (s : CountedSoFar Hears strict table d n c old.left m.left deaf t)
    (reads : m.failed ≡ old.failed) where
  pub stops_reading : (f : Fault) (line : List ℕ) (new : ReaderState) →
      TakesLine (Err f) line m new →
      CountsLines Hears strict table d (Err (stops.Fault f)) old new deaf t
  stops_reading f line new (bytes, count) =
      let (last, took, ends) =
      stops_line (length s.lines) (cause_of f) line m.left new.left bytes in
      record {
        lines = s.lines;
        last = last;
        takes = Consumes-trans old.left m.left new.left (lines_bytes s.lines) last s.took took;
        earlier = c;
        told = s.told;
        since = [];
        done = s.done;
        tells = s.hears;
        ends = (ends, refl);
        reader_failures = count ∙ reads_same Ending ℕ (cause_of f) m.failed
            ∙ ap (reader_count {T = ℕ} (Err (cause_of f))) reads;
      }

  pub stops_counting : (ending : Ending) (line : List ℕ) (number : ℕ) (stop : Stop)
      (after : Summary) (new : ReaderState) (u : T) → TakesLine (Ok ending) line m new →
      CountsLine Hears strict table d number line c after (Err stop) t u → number ≡ n + 1 →
      CountsLines Hears strict table d (Err stop) old new deaf u
  stops_counting ending line number (stops.Line told error) after new u (bytes, count)
      (is_strict, tells, refuses, heard) is =
      let (last, took, ended) = whole_line ending line m.left new.left bytes in
      record {
        lines = s.lines;
        last = last;
        takes = Consumes-trans old.left m.left new.left (lines_bytes s.lines) last s.took took;
        earlier = c;
        told = s.told;
        since = [];
        done = s.done;
        tells = subst (AreTold Hears s.told deaf) (sym heard) s.hears;
        ends = (is_strict, omega (arith, tells, is, s.counted), (line, ended, refuses), refl);
        reader_failures = count ∙ reads;
      }
  stops_counting ending line number (stops.Fault f) after new u (bytes, count) (why, heard) is =
      let (last, took, ended) = whole_line ending line m.left new.left bytes in
      record {
        lines = s.lines;
        last = last;
        takes = Consumes-trans old.left m.left new.left (lines_bytes s.lines) last s.took took;
        earlier = c;
        told = s.told;
        since = [];
        done = s.done;
        tells = subst (AreTold Hears s.told deaf) (sym heard) s.hears;
        ends = (subst (λ k. StopsCounting k (length s.lines) last) (sym why) tt, refl);
        reader_failures = subst (λ k. new.failed ≡ reader_count {T = ℕ} (Err k) old.failed)
            (sym why) (count ∙ reads);
      }

  pub ends_well : (line : List ℕ) (number : ℕ) (e : Summary) (new : ReaderState) (u : T) →
      TakesLine (Ok Input) line m new →
      CountsLine Hears strict table d number line c e (Ok tt) t u → number ≡ n + 1 →
      CountsLines Hears strict table d (Ok e) old new deaf u
  ends_well line number e new u ((is, took, end), count) (since, done, hears) f = record {
    lines = s.lines;
    last = line;
    takes = Consumes-trans old.left m.left new.left (lines_bytes s.lines) line s.took took;
    earlier = c;
    told = s.told;
    since = since;
    done = s.done;
    tells = told_more Hears since s.told deaf t u s.hears hears;
    ends = (
      is,
      end,
      subst (λ q. IsLineCounted strict table d q line c e since) (omega (arith, f, s.counted)) done,
    );
    reader_failures = count ∙ reads;
  }

  pub stops_at_last : n ≡ 2 ^ 64 - 1 →
      CountsLines Hears strict table d (Err (stops.Fault faults.TooMany)) old m deaf t
  stops_at_last last = record {
    lines = s.lines;
    last = [];
    takes = subst (Consumes old.left m.left) (sym (append-nil (lines_bytes s.lines))) s.took;
    earlier = c;
    told = s.told;
    since = [];
    done = s.done;
    tells = s.hears;
    ends = ((s.counted ∙ last, refl), refl);
    reader_failures = reads;
  }
