-- Units of a recording that were taken one after the other, and how reading them ends.
use Rattle.std.proofs.Common.{◌≡◌, ℕ, ◌+◌, ◌-◌, ◌^◌, List, [], ◌∷◌, ◌++◌, length, min}
use Rattle.std.proofs.Common.{Option, Result, Ok, Err, refl, ap, sym, ◌∙◌, subst, arith, inl, inr}
use Rattle.std.specs.List.{AllByRecursion, flat_map}
use Rattle.std.proofs.lemmas.List.{length-append, flat_map_more}
use Rattle.std.specs.Io.KnownBytes.{Consumes}
use Rattle.std.proofs.KnownBytes.{Consumes-trans}
use Rattle.rtr_units.specs.declared.fault.Fault.{Fault}
use Rattle.rtr_units.specs.Reading.{Takes}
use Rattle.rtr_units.specs.StopCauses.{ReaderState, cause_of, reader_count}
use Rattle.unit_any.specs.AnyFields.{AnyFields, HasAnyFields, any_list}
use Rattle.unit_any.specs.AnyReading.{HasEnded, StopsInAny}
use Rattle.unit_any.specs.AnyUnits.{any_bytes, any_fields}
use Rattle.unit_any.specs.declared.any_unit.AnyUnit.{AnyUnit}
use Rattle.data_recordings.specs.PrivateRecordings.{FinishesAt, TakesUnit}
use Rattle.data_recordings.specs.RecordingRead.{IsRecorded, KeepsPrefixRule, ReadsRecording}
use Rattle.data_recordings.specs.Recordings.{SoMuch, held_after, nothing, step}
use Rattle.data_recordings.specs.declared.recording.Recording.{Recording}
use Rattle.data_recordings.specs.declared.stop.Refusal.{Refusal}
use Rattle.data_recordings.specs.declared.stop.Stop.{Stop}
use Rattle.data_recordings.specs.declared.stop.StopCause.{StopCause}
use Rattle.data_recordings.specs.declared.stop.StopCause.TheVariants as causes
use Rattle.data_recordings.proofs.RecordingStops.{no_change, not_blamed, stops_reading}

-- so many units were taken, they make this, and the offset is that of the next one
pub record SoFar (count offset : ℕ) (old new : Option (List ℕ)) (held : SoMuch) : Type 0 where
  pub units : List AnyFields
  pub are_recorded : AllByRecursion IsRecorded units
  pub counted : length units ≡ count
  pub took : Consumes old new (flat_map any_list units)
  pub makes : held_after units (Ok nothing) ≡ Ok held
  pub counts : offset ≡ min (length (flat_map any_list units)) (2 ^ 64 - 1)

-- ---- one unit more

pub all_push : (P : AnyFields → Type 0) (xs : List AnyFields) (x : AnyFields) →
    AllByRecursion P xs →
    P x → AllByRecursion P (xs ++ x ∷ [])
all_push P [] x h p = (p, tt)
all_push P (y ∷ ys) x h p = (h.0, all_push P ys x h.1 p)

pub held_more : (units : List AnyFields) (r : Result SoMuch Refusal) (h : SoMuch)
    (unit : AnyFields) →
    held_after units r ≡ Ok h → held_after (units ++ unit ∷ []) r ≡ step unit h
held_more [] r h unit e = ap (held_after (unit ∷ [])) e
held_more (u ∷ us) (Ok g) h unit e = held_more us (step u g) h unit e
held_more (u ∷ us) (Err x) h unit e = absurd cc

is_recorded : (u : AnyUnit) → HasAnyFields (any_bytes u) (any_fields u) →
    KeepsPrefixRule (any_fields u) → IsRecorded (any_fields u)
is_recorded u has rule = (subst (λ l. HasAnyFields l (any_fields u)) has.bytes has, rule)

pub goes_on : (n o p : ℕ) (a b c : Option (List ℕ)) (h g : SoMuch) (u : AnyUnit) →
    SoFar n o a b h → Consumes b c (any_bytes u) → HasAnyFields (any_bytes u) (any_fields u) →
    TakesUnit {T = Unit {0}} (Ok tt) u h g → p ≡ min (o + length (any_bytes u)) (2 ^ 64 - 1) →
    SoFar (n + 1) p a c g
goes_on n o p a b c h g u s took has (rule, so) moves =
    let f = any_fields u in
    let grows = flat_map_more any_list [] s.units f in
    record {
      units = s.units ++ f ∷ [];
      are_recorded = all_push IsRecorded s.units f s.are_recorded (is_recorded u has rule);
      counted = omega (arith, s.counted, length-append s.units (f ∷ []));
      took = subst (Consumes a c) grows
          (Consumes-trans a b c (flat_map any_list s.units) (any_list f) s.took
          (subst (Consumes b c) has.bytes took));
      makes = held_more s.units (Ok nothing) h f s.makes ∙ so;
      counts = moves ∙ omega (
        arith,
        s.counts,
        ap length has.bytes,
        ap length grows,
        length-append (flat_map any_list s.units) (any_list f),
      );
    }

-- ---- how a call ends

module _ (n o : ℕ) (old new : ReaderState) (h : SoMuch) (b : Option (List ℕ))
    (s : SoFar n o old.left b h) where
  -- at the end of the input
  pub ends_so : (r : Result Recording Stop) → HasEnded b new.left → FinishesAt r h o →
      new.failed ≡ old.failed → ReadsRecording r old new
  ends_so (Ok r) (took, end) left well = record {
    units = s.units;
    last = [];
    are_recorded = s.are_recorded;
    takes = Consumes-trans old.left b new.left (flat_map any_list s.units) [] s.took took;
    held = h;
    makes = s.makes;
    ends = (refl, end, left);
    offset = tt;
    reader_failures = well;
  }
  ends_so (Err stop) (took, end) (not_whole, is) well =
      subst (λ x. ReadsRecording (Err x) old new) (sym is) (record {
        units = s.units;
        last = [];
        are_recorded = s.are_recorded;
        takes = Consumes-trans old.left b new.left (flat_map any_list s.units) [] s.took took;
        held = h;
        makes = s.makes;
        ends = inr (refl, end, not_whole);
        offset = s.counts;
        reader_failures = well;
      })

  pub breaks : (f : Fault) → Takes b new.left (λ t. StopsInAny (cause_of f) t new.left) →
      (k : ℕ) → k ≡ old.failed → new.failed ≡ reader_count {T = ℕ} (Err (cause_of f)) k →
      ReadsRecording (Err (record { offset = o; cause = causes.Read f })) old new
  breaks f (t, took, stops) k same well = record {
    units = s.units;
    last = t;
    are_recorded = s.are_recorded;
    takes = Consumes-trans old.left b new.left (flat_map any_list s.units) t s.took took;
    held = h;
    makes = s.makes;
    ends = stops_reading (cause_of f) (length s.units) h t new.left (inl stops);
    offset = s.counts;
    reader_failures = well ∙ ap (reader_count {T = ℕ} (Err (cause_of f))) same;
  }

  pub refuses : (e : StopCause) (u : AnyUnit) (g : SoMuch) → Consumes b new.left (any_bytes u) →
      HasAnyFields (any_bytes u) (any_fields u) → TakesUnit {T = Unit {0}} (Err e) u h g →
      new.failed ≡ old.failed →
      ReadsRecording (Err (record { offset = o; cause = e })) old new
  refuses (causes.Read f) u g took has none well = record {
    units = s.units;
    last = any_bytes u;
    are_recorded = s.are_recorded;
    takes =
        Consumes-trans old.left b new.left (flat_map any_list s.units) (any_bytes u) s.took took;
    held = h;
    makes = s.makes;
    ends =
        stops_reading (cause_of f) (length s.units) h (any_bytes u) new.left
        (no_change u (cause_of f) new.left none);
    offset = s.counts;
    reader_failures = well ∙ not_blamed u (cause_of f) old.failed none;
  }
  refuses (causes.Refused e) u g took has (rule, refused) well = record {
    units = s.units;
    last = any_bytes u;
    are_recorded = s.are_recorded;
    takes =
        Consumes-trans old.left b new.left (flat_map any_list s.units) (any_bytes u) s.took took;
    held = h;
    makes = s.makes;
    ends = (any_fields u, has.bytes, is_recorded u has rule, refused);
    offset = s.counts;
    reader_failures = well;
  }
