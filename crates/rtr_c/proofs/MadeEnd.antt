-- An end of data, as it is written.
use Rattle.std.proofs.Common.{◌≡◌, ◌⊎◌, inl, inr, ℕ, ◌^◌, ◌<◌, ◌≤◌, cond, List, [], ◌++◌, length}
use Rattle.std.proofs.Common.{Option, Some, None, refl, sym, ap, ◌∙◌, arith}
use Rattle.std.specs.Prelude.{◌==◌, IsTrue}
use Rattle.std.proofs.lemmas.Bool.Decides.{nat_tests}
use Rattle.rtr_base.specs.declared.timing.Timing.{Timing}
use Rattle.rtr_units.specs.AnyEnd.{end_length}
use Rattle.rtr_units.specs.End.{EndMeaning, HasTimingOf, IsEnd, timed_list}
use Rattle.rtr_units.specs.Header.{type_field}
use Rattle.rtr_payload.specs.FirstFault.{is_payload_or_end}
use Rattle.rtr_payload.proofs.Frames.{end_fault}
use Rattle.unit_any.specs.AnyFields.{end_of_data}
use Rattle.unit_any.proofs.Agreement.{same_faults}
use Rattle.unit_any.proofs.Units.{end_has}
use Rattle.rtr_c.proofs.Made.{Made, no_piece}
use Rattle.rtr_c.specs.Kept.{end_kept}
use Rattle.rtr_c.specs.PrivateRanges.{IsRanged}
use Rattle.rtr_c.specs.WrittenUnits.{part_said, text_said, timing_said}
use Rattle.rtr_c.specs.ShownUnits.{end_shown}
use Rattle.rtr_c.specs.declared.unit.RtrUnit.{RtrUnit}

typed : (v s q : ℕ) (t : Option Timing) (r : List ℕ) →
    IsTrue (is_payload_or_end (type_field (timed_list v s q t ++ r)))
typed v s q None r = refl
typed v s q (Some t) r = refl

no_part : (n v s q : ℕ) (t : Option Timing) (l : List ℕ) →
    part_said (end_shown n (record { version = v; session = s; serial = q; timing = t })) l ≡
    Some []
no_part n v s q None l = no_piece l
no_part n v s q (Some t) l = no_piece l

no_text : (n v s q : ℕ) (t : Option Timing) (l : List ℕ) →
    text_said (end_shown n (record { version = v; session = s; serial = q; timing = t })) l ≡
    Some []
no_text n v s q None l = no_piece l
no_text n v s q (Some t) l = no_piece l

module _ (n v s q : ℕ) (t : Option Timing) (hs : s < 2 ^ 16) (hq : q < 2 ^ 32)
    (ht : HasTimingOf v t) (size : n ≡ length (timed_list v s q t)) where
  abbrev meaning : EndMeaning
  meaning = record { version = v; session = s; serial = q; timing = t }

  is_end : IsEnd (timed_list v s q t) meaning
  is_end = record { fits = record { session = hs; serial = hq; timing = ht }; bytes = refl }

  timed_made : Made (timed_list v s q t) (end_shown n meaning) (Some []) (Some [])
  timed_made = record {
    fields = end_of_data meaning;
    unit = end_has (timed_list v s q t) meaning is_end;
    shows = ap (λ m. end_shown m meaning) size;
    shown = λ u is. is ∙ ap (λ m. end_shown m meaning) (sym size);
    sound = λ r.
        same_faults (timed_list v s q t ++ r) (typed v s q t r)
        ∙ end_fault (timed_list v s q t) r meaning is_end;
    part = λ r. no_part n v s q t (timed_list v s q t ++ r);
    text = λ r. no_text n v s q t (timed_list v s q t ++ r);
  }

three : (v : ℕ) → v ≤ 2 → (v ≡ 0) ⊎ ((v ≡ 1) ⊎ (v ≡ 2))
three v h = grind (arith, nat_tests)

timing_fits : (v : ℕ) (t : Timing) → v ≤ 2 → t.refresh < 2 ^ 32 → t.retry < 2 ^ 32 →
    t.expire < 2 ^ 32 → HasTimingOf v (cond (v == 0) None (Some t))
timing_fits v t h refresh retry expire = elim (three v h) [
  | inl e ↦ rw e refl
  | inr (inl e) ↦ rw e (inl refl, refresh, retry, expire)
  | inr (inr e) ↦ rw e (inr refl, refresh, retry, expire)
]

timed_size : (v s q : ℕ) (t : Timing) → v ≤ 2 →
    end_length v ≡ length (timed_list v s q (cond (v == 0) None (Some t)))
timed_size v s q t h = elim (three v h) [
  | inl e ↦ rw e refl
  | inr (inl e) ↦ rw e refl
  | inr (inr e) ↦ rw e refl
]

pub end_made : (u : RtrUnit) → IsRanged u → u.version ≤ 2 →
    Made (timed_list u.version u.session u.serial (timing_said u)) (end_kept u) (Some []) (Some [])
end_made u ranged known =
    let t : Timing = record { refresh = u.refresh; retry = u.retry; expire = u.expire } in
    timed_made (end_length u.version) u.version u.session u.serial (timing_said u) ranged.session
    ranged.serial (timing_fits u.version t known ranged.refresh ranged.retry ranged.expire)
    (timed_size u.version u.session u.serial t known)
