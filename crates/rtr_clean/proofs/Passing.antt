-- One unit: what reading it and writing its form say together.
use Rattle.std.proofs.Common.{◌≡◌, ◌⊎◌, ℕ, ◌<◌, true, false, List, [], ◌++◌, length, append-nil}
use Rattle.std.proofs.Common.{Option, Some, None, Ok, Err, refl, sym, subst, ◌∙◌, inl, inr}
use Rattle.std.specs.Prelude.{IsTrue}
use Rattle.std.specs.Io.KnownBytes.{Consumes, Appends, Keeps}
use Rattle.std.proofs.KnownBytes.{Appends-nil, Appends-kept}
use Rattle.rtr_units.specs.declared.fault.Fault.{Fault}
use Rattle.rtr_units.specs.declared.fault.Fault.TheVariants.{Writer}
use Rattle.rtr_units.specs.StopCauses.{Cause, by_reader, by_writer, too_many, no_memory, wrong}
use Rattle.rtr_units.specs.StopCauses.{cause_of}
use Rattle.rtr_units.specs.Reading.{Takes}
use Rattle.rtr_units.specs.Stream.{StopsWriting, WritesPart}
use Rattle.unit_any.specs.AnyFields.{HasAnyFields}
use Rattle.unit_any.specs.AnyReading.{HasEnded, StopsInAny}
use Rattle.unit_any.specs.AnyUnits.{any_bytes, any_fields}
use Rattle.unit_any.specs.declared.any_unit.AnyUnit.{AnyUnit}
use Rattle.unit_any.specs.declared.any_unit.AnyUnit.TheVariants as units
use Rattle.rtr_wire.specs.Sequences.{Output}
use Rattle.rtr_clean.specs.CleanForms.{IsPassed, KeepsRule, clean_form, ends_answer}
use Rattle.rtr_clean.specs.Cleaning.{StopsAt}
use Rattle.rtr_clean.specs.PrivateClean.{HasNoForm, PassesUnit}
use Rattle.rtr_clean.specs.declared.clean.PassedUnit.TheVariants as passes
use Rattle.rtr_clean.specs.declared.flushing.Flushed.{Flushed}

-- ---- no unit was passed on

kept_back : (what : Output) (c : Cause) (t : List ℕ) (left : Option (List ℕ)) →
    StopsInAny c t left → StopsAt what c t left []
kept_back what by_reader t left stops = (inl stops, refl)
kept_back what by_writer t left stops = absurd stops
kept_back what too_many t left stops = absurd stops
kept_back what no_memory t left stops = (inl stops, refl)
kept_back what (wrong f) t left stops = (inl stops, refl)

pub not_read : (what : Output) (e : Fault) (old left held : Option (List ℕ)) →
    Takes old left (λ t. StopsInAny (cause_of e) t left) →
    PassesUnit what (Err e) old left held held
not_read what e old left held (t, took, stops) =
    (t, [], took, Appends-nil held, kept_back what (cause_of e) t left stops)

pub ended : (what : Output) (old left held : Option (List ℕ)) → HasEnded old left →
    PassesUnit what (Ok None) old left held held
ended what old left held (took, end) = ([], [], took, Appends-nil held, (refl, end, refl))

no_form : (what : Output) (u : AnyUnit) (c : Cause) (left : Option (List ℕ)) → HasNoForm u c →
    StopsAt what c (any_bytes u) left []
no_form what (units.Payload u) by_reader left none = absurd none
no_form what (units.Payload u) by_writer left none = absurd none
no_form what (units.Payload u) too_many left none = absurd none
no_form what (units.Payload u) no_memory left none = (inr (u, refl, none), refl)
no_form what (units.Payload u) (wrong f) left none = (inr (u, refl, none), refl)
no_form what (units.SerialNotify u) c left none = absurd none
no_form what (units.SerialQuery u) c left none = absurd none
no_form what (units.ResetQuery u) c left none = absurd none
no_form what (units.CacheResponse u) c left none = absurd none
no_form what (units.EndOfData u) c left none = absurd none
no_form what (units.CacheReset u) c left none = absurd none
no_form what (units.Error u) c left none = absurd none

pub refused : (what : Output) (u : AnyUnit) (e : Fault) (old left held : Option (List ℕ)) →
    Consumes old left (any_bytes u) → HasNoForm u (cause_of e) →
    PassesUnit what (Err e) old left held held
refused what u e old left held took none =
    (any_bytes u, [], took, Appends-nil held, no_form what u (cause_of e) left none)

-- ---- a unit was read, b is to be written for it, and w was written

by_writer_alone : (e : Fault) → StopsWriting e → cause_of e ≡ by_writer
by_writer_alone (Writer e) stops = refl
by_writer_alone e stops = absurd stops

module _ (what : Output) (u : AnyUnit) (has : HasAnyFields (any_bytes u) (any_fields u))
    (rule : KeepsRule (any_fields u)) (b : List ℕ) (is : b ≡ clean_form what (any_fields u))
    (old left held : Option (List ℕ)) (took : Consumes old left (any_bytes u)) where
  passed : IsPassed (any_fields u)
  passed = (subst (λ l. HasAnyFields l (any_fields u)) has.bytes has, rule)

  pub part : (holds : Option (List ℕ)) → Appends held holds b →
      ends_answer (any_fields u) ≡ false →
      PassesUnit what (Ok (Some passes.Part)) old left held holds
  part holds wrote more =
      (any_bytes u, b, took, wrote, (any_fields u, has.bytes, passed, is, more))

  pub answer : (holds after : Option (List ℕ)) (sign : Flushed) → Appends held holds b →
      Keeps holds after → ends_answer (any_fields u) ≡ true →
      PassesUnit what (Ok (Some (passes.Answer sign))) old left held after
  answer holds after sign wrote kept last = (
    any_bytes u,
    b,
    took,
    Appends-kept held holds after b wrote kept,
    (any_fields u, has.bytes, passed, is, last),
  )

  -- the writer failed
  stops_at : (e : Fault) (after : Option (List ℕ)) (w missing : List ℕ) → Appends held after w →
      b ≡ w ++ missing → (0 < length missing) ⊎ IsTrue (ends_answer (any_fields u)) →
      StopsWriting e → PassesUnit what (Err e) old left held after
  stops_at e after w missing wrote parts why stops = (
    any_bytes u,
    w,
    took,
    wrote,
    subst (λ c. StopsAt what c (any_bytes u) left w) (sym (by_writer_alone e stops))
        (any_fields u, has.bytes, passed, (missing, sym is ∙ parts, why)),
  )

  pub not_put : (e : Fault) (after : Option (List ℕ)) →
      WritesPart (StopsWriting e) held after b → PassesUnit what (Err e) old left held after
  not_put e after (w, missing, wrote, parts, some, stops) =
      stops_at e after w missing wrote parts (inl some) stops

  pub not_flushed : (e : Fault) (holds after : Option (List ℕ)) → Appends held holds b →
      Keeps holds after → ends_answer (any_fields u) ≡ true → StopsWriting e →
      PassesUnit what (Err e) old left held after
  not_flushed e holds after wrote kept last stops =
      stops_at e after b [] (Appends-kept held holds after b wrote kept) (sym (append-nil b))
      (inr last) stops
