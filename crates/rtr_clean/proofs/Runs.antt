-- Units that are read and written one after the other are a run.
use Rattle.std.proofs.Common.{◌≡◌, ℕ, ◌+◌, ◌-◌, ◌^◌, Bool, List, [], ◌∷◌, ◌++◌}
use Rattle.std.proofs.Common.{length, Option, None, Result, Ok, Err, refl, sym, subst, ◌∙◌}
use Rattle.std.proofs.Common.{append-nil, arith, inl, inr}
use Rattle.std.specs.List.{AllByRecursion}
use Rattle.std.proofs.lemmas.List.{length-append, flat_map_more}
use Rattle.std.specs.Io.KnownBytes.{Consumes, Appends}
use Rattle.std.proofs.KnownBytes.{Consumes-trans, Consumes-nil, Appends-trans, Appends-nil}
use Rattle.rtr_units.specs.declared.fault.Fault.{Fault}
use Rattle.rtr_units.specs.declared.fault.Fault.TheVariants.{TooMany}
use Rattle.rtr_units.specs.StopCauses.{Cause, by_reader, by_writer, too_many, no_memory, wrong}
use Rattle.rtr_units.specs.StopCauses.{cause_of}
use Rattle.rtr_units.specs.StopCauses.{ReaderState, WriterState, reader_count, writer_count}
use Rattle.unit_any.specs.AnyFields.{AnyFields, any_list}
use Rattle.rtr_wire.specs.Sequences.{Output}
use Rattle.rtr_clean.specs.CleanForms.{IsPassed, ArePassed, clean_form, clean_stream}
use Rattle.rtr_clean.specs.CleanForms.{stream_bytes}
use Rattle.rtr_clean.specs.Cleaning.{CleanEnds, Cleans, StopsAt}
use Rattle.rtr_clean.specs.PrivateClean.{IsPassedOn, PassesUnit}

-- n units were passed on
pub record SoFar (what : Output) (n : ℕ) (old new held holds : Option (List ℕ)) : Type 0 where
  pub units : List AnyFields
  pub are_passed : ArePassed units
  pub counted : length units ≡ n
  pub took : Consumes old new (stream_bytes units)
  pub wrote : Appends held holds (clean_stream what units)

pub starts : (what : Output) (a h : Option (List ℕ)) → SoFar what 0 a a h h
starts what a h = record {
  units = [];
  are_passed = tt;
  counted = refl;
  took = Consumes-nil a;
  wrote = Appends-nil h;
}

all_push : (P : AnyFields → Type 0) (xs : List AnyFields) (x : AnyFields) → AllByRecursion P xs →
    P x → AllByRecursion P (xs ++ x ∷ [])
all_push P [] x h p = (p, tt)
all_push P (y ∷ ys) x h p = (h.0, all_push P ys x h.1 p)

-- one unit more
pub goes_on : (what : Output) (is_last : Bool) (n : ℕ) (a b c h i j : Option (List ℕ))
    (t w : List ℕ) → SoFar what n a b h i → Consumes b c t → Appends i j w →
    IsPassedOn what is_last t w → SoFar what (n + 1) a c h j
goes_on what is_last n a b c h i j t w p took wrote (unit, t_is, passed, w_is, last) = record {
  units = p.units ++ unit ∷ [];
  are_passed = all_push IsPassed p.units unit p.are_passed passed;
  counted = omega (arith, p.counted, length-append p.units (unit ∷ []));
  took = subst (Consumes a c) (flat_map_more any_list [] p.units unit)
      (Consumes-trans a b c (stream_bytes p.units) (any_list unit) p.took
      (subst (Consumes b c) t_is took));
  wrote = subst (Appends h j) (flat_map_more (clean_form what) [] p.units unit)
      (Appends-trans h i j (clean_stream what p.units) (clean_form what unit) p.wrote
      (subst (Appends i j) w_is wrote));
}

-- ---- how a run ends

-- the counts of failures after this answer
abbrev Counted : Result Unit Cause → (old new : ReaderState) (before after : WriterState) → Type 0
Counted answer old new before after =
    (new.failed ≡ reader_count answer old.failed)
    × (after.failed ≡ writer_count answer before.failed)

module _ (what : Output) (n : ℕ) (old new : ReaderState) (before after : WriterState) where
  pub ends : (b i : Option (List ℕ)) → SoFar what n old.left b before.held i →
      PassesUnit what (Ok None) b new.left i after.held → Counted (Ok tt) old new before after →
      Cleans what (Ok tt) old new before after
  ends b i p (t, w, took, wrote, end) counted = record {
    units = p.units;
    last = t;
    are_passed = p.are_passed;
    takes = Consumes-trans old.left b new.left (stream_bytes p.units) t p.took took;
    last_written = w;
    writes = Appends-trans before.held i after.held (clean_stream what p.units) w p.wrote wrote;
    ends = end;
    reader_failures = counted.0;
    writer_failures = counted.1;
  }

  ends_so : (c : Cause) (t w : List ℕ) → StopsAt what c t new.left w →
      CleanEnds what n (Err c) t new.left w
  ends_so by_reader t w stops = stops
  ends_so by_writer t w stops = stops
  ends_so too_many t w (inl never, none) = absurd never
  ends_so too_many t w (inr (u, is, never), none) = absurd never
  ends_so no_memory t w stops = stops
  ends_so (wrong f) t w stops = stops

  pub stops : (e : Fault) (b i : Option (List ℕ)) → SoFar what n old.left b before.held i →
      PassesUnit what (Err e) b new.left i after.held →
      Counted (Err (cause_of e)) old new before after → Cleans what (Err e) old new before after
  stops e b i p (t, w, took, wrote, end) counted = record {
    units = p.units;
    last = t;
    are_passed = p.are_passed;
    takes = Consumes-trans old.left b new.left (stream_bytes p.units) t p.took took;
    last_written = w;
    writes = Appends-trans before.held i after.held (clean_stream what p.units) w p.wrote wrote;
    ends = subst (λ k. CleanEnds what k (Err (cause_of e)) t new.left w) (sym p.counted)
        (ends_so (cause_of e) t w end);
    reader_failures = counted.0;
    writer_failures = counted.1;
  }

  pub reaches_limit : n ≡ 2 ^ 64 - 1 → SoFar what n old.left new.left before.held after.held →
      Counted (Err too_many) old new before after →
      Cleans what (Err TooMany) old new before after
  reaches_limit full p counted = record {
    units = p.units;
    last = [];
    are_passed = p.are_passed;
    takes = subst (Consumes old.left new.left) (sym (append-nil (stream_bytes p.units))) p.took;
    last_written = [];
    writes =
        subst (Appends before.held after.held) (sym (append-nil (clean_stream what p.units)))
        p.wrote;
    ends = (p.counted ∙ full, refl, refl);
    reader_failures = counted.0;
    writer_failures = counted.1;
  }
