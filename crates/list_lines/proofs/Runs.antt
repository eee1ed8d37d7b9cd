-- Units that are read and printed one after the other are a run.
use Rattle.std.proofs.Common.{◌≡◌, ℕ, ◌+◌, ◌-◌, ◌^◌, min, Bool, false, List, [], ◌∷◌}
use Rattle.std.proofs.Common.{◌++◌, length, Option, Result, Ok, Err, refl, sym, ap, subst, ◌∙◌}
use Rattle.std.proofs.Common.{append-nil, arith, inl, inr}
use Rattle.std.proofs.lemmas.Bool.Decides.{nat_tests}
use Rattle.std.specs.Prelude.{nat_lt, ◌||◌}
use Rattle.std.specs.List.{concat}
use Rattle.std.proofs.lemmas.List.{length-append}
use Rattle.std.proofs.lemmas.List.Folds.{concat-append}
use Rattle.std.specs.Io.KnownBytes.{Consumes, Appends, IsAtEnd}
use Rattle.std.proofs.KnownBytes.{Consumes-trans, Consumes-nil, Appends-trans, Appends-nil}
use Rattle.rtr_units.specs.declared.fault.Fault.{Fault}
use Rattle.rtr_units.specs.declared.fault.Fault.TheVariants.{TooMany}
use Rattle.rtr_units.specs.StopCauses.{Cause, by_reader, by_writer, too_many, no_memory, wrong}
use Rattle.rtr_units.specs.StopCauses.{by_cause, cause_of}
use Rattle.rtr_units.specs.Reading.{Takes}
use Rattle.rtr_units.specs.StopCauses.{ReaderState, WriterState, reader_count, writer_count}
use Rattle.unit_any.specs.AnyFields.{AnyFields, HasAnyFields, any_list}
use Rattle.unit_any.specs.AnyReading.{HasEnded, StopsInAny}
use Rattle.list_lines.specs.PrivateFollowing.{HasSeen}
use Rattle.list_lines.specs.Listing.{AreAnyUnits, BreaksOff, ListingEnds, Lists, Printed}
use Rattle.list_lines.specs.Listing.{UnitLines}
use Rattle.list_lines.specs.Listing.{end_lines, offset_of, tells_broken, units_bytes}
use Rattle.list_lines.specs.PrivateLines.{HasChecked, PrintsBytes, offset_after}
use Rattle.list_lines.specs.declared.check.Checker.{Checker}
use Rattle.list_lines.specs.declared.run.Wanted.{Wanted}
use Rattle.list_lines.specs.declared.run.Wanted.TheVariants.{Text, Json, Findings}

-- the counts of failures after this answer
abbrev Counted : Result Bool Cause → (old new : ReaderState) (before after : WriterState) → Type 0
Counted answer old new before after =
    (new.failed ≡ reader_count answer old.failed)
    × (after.failed ≡ writer_count answer before.failed)

-- n units were read and printed
pub record SoFar (what : Wanted) (found : Bool) (n offset : ℕ) (checker : Checker)
    (old new held holds : Option (List ℕ)) : Type 0 where
  pub units : List AnyFields
  pub are_units : AreAnyUnits units
  pub took : Consumes old new (units_bytes units)
  pub counted : length units ≡ n
  pub lines : List (List ℕ)
  pub is_printed : Printed what units lines
  pub wrote : Appends held holds (concat lines)
  pub shows : found ≡ tells_broken what lines
  pub place : offset ≡ offset_of units
  pub checked : HasChecked what checker units

none_shown : (what : Wanted) → false ≡ tells_broken what []
none_shown Text = refl
none_shown Json = refl
none_shown Findings = refl

none_checked : (what : Wanted) (checker : Checker) → HasSeen checker [] →
    HasChecked what checker []
none_checked Text checker h = tt
none_checked Json checker h = tt
none_checked Findings checker h = h

pub starts : (what : Wanted) (offset : ℕ) (checker : Checker) (a h : Option (List ℕ)) →
    offset ≡ 0 → HasSeen checker [] → SoFar what false 0 offset checker a a h h
starts what offset checker a h first seen = record {
  units = [];
  are_units = tt;
  took = Consumes-nil a;
  counted = refl;
  lines = [];
  is_printed = refl;
  wrote = Appends-nil h;
  shows = none_shown what;
  place = first;
  checked = none_checked what checker seen;
}

-- ---- one unit more

nat_lt_sum : (m n : ℕ) → (nat_lt 0 m || nat_lt 0 n) ≡ nat_lt 0 (m + n)
nat_lt_sum m n = grind (arith, nat_tests)

-- whether a broken rule is reported in the lines before or in those after
tells_more : (what : Wanted) (found more : Bool) (xs ys : List (List ℕ)) →
    found ≡ tells_broken what xs → more ≡ tells_broken what ys →
    (found || more) ≡ tells_broken what (xs ++ ys)
tells_more Text found more xs ys h k = cc
tells_more Json found more xs ys h k = cc
tells_more Findings found more xs ys h k =
    ap (λ b. b || more) h ∙ ap (λ b. nat_lt 0 (length xs) || b) k ∙
    nat_lt_sum (length xs) (length ys) ∙ ap (nat_lt 0) (sym (length-append xs ys))

min_twice : (a b m : ℕ) → min (min a m + b) m ≡ min (a + b) m
min_twice a b m = omega arith

-- the offset of the unit after these and one more
next_place : (units : List AnyFields) (f : AnyFields) (bytes : List ℕ) (offset next : ℕ) →
    bytes ≡ any_list f → offset ≡ offset_of units → next ≡ offset_after offset bytes →
    next ≡ offset_of (f ∷ units)
next_place units f bytes offset next is place moved =
    moved ∙ ap (λ o. offset_after o bytes) place
    ∙ ap (λ b. offset_after (offset_of units) b) is
    ∙ min_twice (length (units_bytes units)) (length (any_list f)) (2 ^ 64 - 1)
    ∙ ap (λ n. min n (2 ^ 64 - 1)) (sym (length-append (units_bytes units) (any_list f)))

-- of the unit at this offset, after any units that the checker has seen, its lines were printed
abbrev PrintsNext : Wanted → ℕ → Checker → AnyFields → Result Bool Fault →
    Option (List ℕ) → Option (List ℕ) → Type 0
PrintsNext what offset checker f r held holds = (before : List AnyFields) →
    HasChecked what checker before → (lines : List (List ℕ))
    × UnitLines what offset before f lines × PrintsBytes what lines r held holds

abbrev ChecksNext : Wanted → Checker → AnyFields → Checker → Type 0
ChecksNext what checker f next = (before : List AnyFields) → HasChecked what checker before →
    HasChecked what next (f ∷ before)

pub goes_on : (what : Wanted) (found more : Bool) (n offset next : ℕ) (old new : Checker) →
    (f : AnyFields) (u : List ℕ) (a b c h i j : Option (List ℕ)) →
    SoFar what found n offset old a b h i → Consumes b c u → HasAnyFields u f →
    PrintsNext what offset old f (Ok more) i j → ChecksNext what old f new →
    next ≡ offset_after offset u → SoFar what (found || more) (n + 1) next new a c h j
goes_on what found more n offset next old new f u a b c h i j p took is prints checks moved =
    let shown = prints p.units p.checked in
    record {
      units = f ∷ p.units;
      are_units = (subst (λ l. HasAnyFields l f) is.bytes is, p.are_units);
      took = Consumes-trans a b c (units_bytes p.units) (any_list f) p.took
          (subst (Consumes b c) is.bytes took);
      counted = omega (arith, p.counted);
      lines = p.lines ++ shown.0;
      is_printed = (
        p.lines,
        shown.0,
        p.is_printed,
        subst (λ o. UnitLines what o p.units f shown.0) p.place shown.1,
        refl,
      );
      wrote = subst (Appends h j) (sym (concat-append p.lines shown.0))
          (Appends-trans h i j (concat p.lines) (concat shown.0) p.wrote shown.2.0);
      shows = tells_more what found more p.lines shown.0 p.shows shown.2.1;
      place = next_place p.units f u offset next is.bytes p.place moved;
      checked = checks p.units p.checked;
    }

-- ---- how a run ends

-- what is printed at the end, after any units that the checker has seen
abbrev PrintsLast : Wanted → ℕ → Checker → Result Bool Fault → Option (List ℕ) →
    Option (List ℕ) → Type 0
PrintsLast what offset checker r held holds = (before : List AnyFields) →
    HasChecked what checker before → offset ≡ offset_of before →
    PrintsBytes what (end_lines what before) r held holds

pub ends : (what : Wanted) (found more : Bool) (n offset : ℕ) (checker : Checker) →
    (old new : ReaderState) (before after : WriterState) (b i : Option (List ℕ)) →
    SoFar what found n offset checker old.left b before.held i → HasEnded b new.left →
    PrintsLast what offset checker (Ok more) i after.held →
    new.failed ≡ old.failed → after.failed ≡ before.failed →
    Lists what (Ok (found || more)) old new before after
ends what found more n offset checker old new before after b i p ended prints reads writes =
    let last = prints p.units p.checked p.place in
    record {
      units = p.units;
      rest = [];
      are_units = p.are_units;
      takes = Consumes-trans old.left b new.left (units_bytes p.units) [] p.took ended.0;
      written = concat (p.lines ++ end_lines what p.units);
      writes =
          subst (Appends before.held after.held)
          (sym (concat-append p.lines (end_lines what p.units)))
          (Appends-trans before.held i after.held (concat p.lines)
          (concat (end_lines what p.units)) p.wrote last.0);
      ends = (
        refl,
        ended.1,
        (
          p.lines,
          p.is_printed,
          refl,
          tells_more what found more p.lines (end_lines what p.units) p.shows last.1,
        ),
      );
      reader_failures = reads;
      writer_failures = writes;
    }

ends_last : (what : Wanted) (c : Cause) (units : List AnyFields) (left : Option (List ℕ)) →
    (lines : List (List ℕ)) (part : List ℕ) → Printed what units lines → IsAtEnd left →
    BreaksOff c (end_lines what units) part →
    ListingEnds what (Err c) units [] left (concat lines ++ part)
ends_last what by_reader units left lines part p end stops = absurd stops
ends_last what by_writer units left lines part p end stops =
    (refl, inr (end, (lines, part, p, stops, refl)))
ends_last what too_many units left lines part p end stops = absurd stops
ends_last what no_memory units left lines part p end stops =
    inl (refl, inr (end, (lines, part, p, stops, refl)))
ends_last what (wrong r) units left lines part p end stops = absurd stops

pub stops_at_end : (what : Wanted) (found : Bool) (n offset : ℕ) (checker : Checker) →
    (e : Fault) (old new : ReaderState) (before after : WriterState) (b i : Option (List ℕ)) →
    SoFar what found n offset checker old.left b before.held i → HasEnded b new.left →
    PrintsLast what offset checker (Err e) i after.held →
    Counted (Err (cause_of e)) old new before after → Lists what (Err e) old new before after
stops_at_end what found n offset checker e old new before after b i p ended prints counted =
    let last = prints p.units p.checked p.place in
    record {
      units = p.units;
      rest = [];
      are_units = p.are_units;
      takes = Consumes-trans old.left b new.left (units_bytes p.units) [] p.took ended.0;
      written = concat p.lines ++ last.0;
      writes = Appends-trans before.held i after.held (concat p.lines) last.0 p.wrote last.1;
      ends =
          ends_last what (cause_of e) p.units new.left p.lines last.0 p.is_printed ended.1 last.2;
      reader_failures = counted.0;
      writer_failures = counted.1;
    }

ends_stopped : (what : Wanted) (c : Cause) (units : List AnyFields) (t : List ℕ) →
    (left : Option (List ℕ)) (lines : List (List ℕ)) → Printed what units lines →
    StopsInAny c t left → ListingEnds what (Err c) units t left (concat lines)
ends_stopped what by_reader units t left lines p stops = (stops, (lines, p, refl))
ends_stopped what by_writer units t left lines p stops = absurd stops
ends_stopped what too_many units t left lines p stops = absurd stops
ends_stopped what no_memory units t left lines p stops = inr (stops, (lines, p, refl))
ends_stopped what (wrong f) units t left lines p stops = (stops, (lines, p, refl))

pub stops_reading : (what : Wanted) (found : Bool) (n offset : ℕ) (checker : Checker) →
    (e : Fault) (old new : ReaderState) (before after : WriterState) (b : Option (List ℕ)) →
    SoFar what found n offset checker old.left b before.held after.held →
    Takes b new.left (λ t. StopsInAny (cause_of e) t new.left) →
    Counted (Err (cause_of e)) old new before after →
    Lists what (Err e) old new before after
stops_reading what found n offset checker e old new before after b p (t, took, stops) counted =
    record {
      units = p.units;
      rest = t;
      are_units = p.are_units;
      takes = Consumes-trans old.left b new.left (units_bytes p.units) t p.took took;
      written = concat p.lines;
      writes = p.wrote;
      ends = ends_stopped what (cause_of e) p.units t new.left p.lines p.is_printed stops;
      reader_failures = counted.0;
      writer_failures = counted.1;
    }

ends_broken : (what : Wanted) (c : Cause) (f : AnyFields) (units : List AnyFields) →
    (left : Option (List ℕ)) (earlier last : List (List ℕ)) (part : List ℕ) →
    Printed what units earlier → UnitLines what (offset_of units) units f last →
    BreaksOff c last part → ListingEnds what (Err c) (f ∷ units) [] left (concat earlier ++ part)
ends_broken what by_reader f units left earlier last part p q stops = absurd stops
ends_broken what by_writer f units left earlier last part p q stops =
    (refl, inl (earlier, last, part, p, q, stops, refl))
ends_broken what too_many f units left earlier last part p q stops = absurd stops
ends_broken what no_memory f units left earlier last part p q stops =
    inl (refl, inl (earlier, last, part, p, q, stops, refl))
ends_broken what (wrong r) f units left earlier last part p q stops = absurd stops

pub stops_printing : (what : Wanted) (found : Bool) (n offset : ℕ) (checker : Checker) →
    (e : Fault) (f : AnyFields) (u : List ℕ) →
    (old new : ReaderState) (before after : WriterState) (b i : Option (List ℕ)) →
    SoFar what found n offset checker old.left b before.held i →
    Consumes b new.left u → HasAnyFields u f →
    PrintsNext what offset checker f (Err e) i after.held →
    Counted (Err (cause_of e)) old new before after → Lists what (Err e) old new before after
stops_printing what found n offset checker e f u old new before after b i p took is prints
    counted =
    let shown = prints p.units p.checked in
    record {
      units = f ∷ p.units;
      rest = [];
      are_units = (subst (λ l. HasAnyFields l f) is.bytes is, p.are_units);
      takes = subst (Consumes old.left new.left)
          (sym (append-nil (units_bytes p.units ++ any_list f)))
          (Consumes-trans old.left b new.left (units_bytes p.units) (any_list f) p.took
          (subst (Consumes b new.left) is.bytes took));
      written = concat p.lines ++ shown.2.0;
      writes = Appends-trans before.held i after.held (concat p.lines) shown.2.0 p.wrote
          shown.2.1;
      ends = ends_broken what (cause_of e) f p.units new.left p.lines shown.0 shown.2.0
          p.is_printed (subst (λ o. UnitLines what o p.units f shown.0) p.place shown.1)
          shown.2.2;
      reader_failures = counted.0;
      writer_failures = counted.1;
    }

pub reaches_limit : (what : Wanted) (found : Bool) (n offset : ℕ) (checker : Checker) →
    (old new : ReaderState) (before after : WriterState) → n ≡ 2 ^ 64 - 1 →
    SoFar what found n offset checker old.left new.left before.held after.held →
    new.failed ≡ old.failed → after.failed ≡ before.failed →
    Lists what (Err TooMany) old new before after
reaches_limit what found n offset checker old new before after full p reads writes = record {
  units = p.units;
  rest = [];
  are_units = p.are_units;
  takes = subst (Consumes old.left new.left) (sym (append-nil (units_bytes p.units))) p.took;
  written = concat p.lines;
  writes = p.wrote;
  ends = (p.counted ∙ full, refl, (p.lines, p.is_printed, refl));
  reader_failures = reads;
  writer_failures = writes;
}

-- the writer's count of failures, where it was the same before
pub count_kept : (r : Result Bool Fault) (n m k : ℕ) → k ≡ writer_count (by_cause r) m → m ≡ n →
    k ≡ writer_count (by_cause r) n
count_kept r n m k is same = is ∙ ap (writer_count (by_cause r)) same
