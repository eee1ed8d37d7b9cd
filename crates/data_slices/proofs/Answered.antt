-- What the delta of two slices of data is answered with.
use Rattle.std.proofs.Common.{◌≡◌, ◌≤◌, ℕ, List, length, Option, Some, None, Result, Ok, Err}
use Rattle.std.proofs.Common.{refl, sym, ap, subst, ◌∙◌, arith}
use Rattle.std.specs.Prelude.{IsOk}
use Rattle.rtr_units.specs.End.{EndMeaning}
use Rattle.rtr_payload.specs.Payloads.{Payload}
use Rattle.data_memory.specs.Changes.{after_all, changes}
use Rattle.data_memory.proofs.Delta.{leads_to_new}
use Rattle.data_slices.specs.Canonical.{HoldsData, PlacesFront}
use Rattle.data_slices.specs.Delta.{Deltas, IsPlaced, WritesDelta, delta_form}
use Rattle.data_slices.specs.declared.fault.DeltaFault.{DeltaFault}
use Rattle.data_slices.specs.declared.fault.DeltaFault.TheVariants.{Old, New, UnitVersion, Session}
use Rattle.data_slices.specs.declared.fault.DeltaFault.TheVariants.{NoRoom}
use Rattle.data_slices.proofs.OneData.{one_data}

pub leads : (old new : List ℕ) (d d' : List Payload) (e e' : EndMeaning) → HoldsData old d e →
    HoldsData new d' e' → after_all (changes d d') (Ok d) ≡ Ok d'
leads old new d d' e e' h j = leads_to_new d d' h.in_order j.in_order

module _ (old new before after : List ℕ) (d d' : List Payload) (e e' : EndMeaning)
    (h : HoldsData old d e) (j : HoldsData new d' e') where
  same_delta : (n : Option ℕ) → WritesDelta n old new before after →
      PlacesFront n (delta_form d d' e') before after
  same_delta n (x, c, x', c', k, l, (version, session, placed)) =
      let s = one_data old x d c e k h in
      let t = one_data new x' d' c' e' l j in
      subst (λ form. PlacesFront n form before after)
      (λ i. delta_form (s.0 i) (t.0 i) (t.1 i)) placed

  pub written : (r : Result ℕ DeltaFault) → e.version ≡ e'.version → e.session ≡ e'.session →
      Deltas r old new before after → IsPlaced r (delta_form d d' e') before after
  written (Ok n) v s w = same_delta (Some n) w
  written (Err NoRoom) v s w = same_delta None w
  written (Err (Old f)) v s (flaw, kept) = absurd (flaw.none (d, e, h))
  written (Err (New f)) v s ((some, flaw), kept) = absurd (flaw.none (d', e', j))
  written (Err (UnitVersion n)) v s ((x, c, x', c', k, l, (not, is)), kept) =
      let p = one_data old x d c e k h in
      let q = one_data new x' d' c' e' l j in
      absurd (not (ap (λ (m : EndMeaning). m.version) p.1 ∙ v
      ∙ sym (ap (λ (m : EndMeaning). m.version) q.1)))
  written (Err (Session n)) v s ((x, c, x', c', k, l, (same, not, is)), kept) =
      let p = one_data old x d c e k h in
      let q = one_data new x' d' c' e' l j in
      absurd (not (ap (λ (m : EndMeaning). m.session) p.1 ∙ s
      ∙ sym (ap (λ (m : EndMeaning). m.session) q.1)))

pub room : (r : Result ℕ DeltaFault) (form before after : List ℕ) →
    IsPlaced r form before after → length form ≤ length before → IsOk r
room (Ok n) form before after w enough = refl
room (Err NoRoom) form before after w enough = absurd (omega (arith, w.0, enough))
room (Err (Old f)) form before after w enough = absurd w
room (Err (New f)) form before after w enough = absurd w
room (Err (UnitVersion v)) form before after w enough = absurd w
room (Err (Session s)) form before after w enough = absurd w
