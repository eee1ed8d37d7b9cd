-- What the changes of a slice are answered with.
use Rattle.std.proofs.Common.{◌≡◌, ◌≤◌, ℕ, List, ◌∷◌, ◌++◌, length, map, Option, Some, None}
use Rattle.std.proofs.Common.{Result, Ok, Err, refl, sym, ap, subst, ◌∙◌, arith}
use Rattle.std.specs.Prelude.{IsOk}
use Rattle.rtr_units.specs.End.{EndMeaning}
use Rattle.rtr_payload.specs.Payloads.{Payload}
use Rattle.rtr_wire.proofs.Runs.{accepted_same}
use Rattle.data_memory.specs.Changes.{after_all, changes}
use Rattle.data_memory.specs.Data.{Change}
use Rattle.data_memory.specs.Deltas.{unit_of}
use Rattle.data_memory.specs.Sequences.{change_of}
use Rattle.data_memory.specs.declared.change_error.ChangeError.{ChangeError}
use Rattle.data_memory.proofs.Accepted.{again}
use Rattle.data_memory.proofs.Delta.{after_append, leads_to_new}
use Rattle.data_slices.specs.Apply.{AppliesChanges, IsApplied, RefusedAt, WritesApplied, data_form}
use Rattle.data_slices.specs.Canonical.{HoldsData, PlacesFront}
use Rattle.data_slices.specs.CanonicalChanges.{HoldsChanges}
use Rattle.data_slices.specs.Delta.{delta_form}
use Rattle.data_slices.specs.declared.fault.ApplyFault.{ApplyFault}
use Rattle.data_slices.specs.declared.fault.ApplyFault.TheVariants.{Data, Changes, UnitVersion}
use Rattle.data_slices.specs.declared.fault.ApplyFault.TheVariants.{Session, Duplicate, Unknown}
use Rattle.data_slices.specs.declared.fault.ApplyFault.TheVariants.{NoRoom}
use Rattle.data_slices.proofs.Making.{not_refused}
use Rattle.data_slices.proofs.OneData.{one_data}
use Rattle.data_slices.proofs.Sent.{holds_delta}

-- a slice is one list of changes at most
pub one_changes : (r : List ℕ) (cs ds : List Change) (d e : EndMeaning) → HoldsChanges r cs d →
    HoldsChanges r ds e → (cs ≡ ds) × (d ≡ e)
one_changes r cs ds d e h j =
    let t = accepted_same r h.bytes j.bytes (map (unit_of d.version) cs)
    (map (unit_of e.version) ds) d e h.accepts j.accepts in
    (sym (again d.version cs) ∙ ap (map change_of) t.1 ∙ again e.version ds, t.2)

abbrev pub made : List Payload → Result (List Payload) ChangeError
made d = Ok d

pub same_made : (d x : List Payload) → made d ≡ made x → d ≡ x
same_made d x h = cc

module _ (base input before after : List ℕ) (d d' : List Payload) (cs : List Change)
    (e e' : EndMeaning) (h : HoldsData base d e) (j : HoldsChanges input cs e')
    (all : after_all cs (Ok d) ≡ Ok d') where
  pub same_form : (n : Option ℕ) → WritesApplied n base input before after →
      PlacesFront n (data_form d' e') before after
  same_form n (x, c, ds, c', k, l, (version, session, (y, is, placed))) =
      let s = one_data base x d c e k h in
      let t = one_changes input ds cs c' e' l j in
      let u : y ≡ d' =
      same_made y d' (sym is ∙ (λ i. after_all (t.0 i) (Ok (s.0 i))) ∙ all) in
      subst (λ form. PlacesFront n form before after) (λ i. data_form (u i) (t.1 i)) placed

  never_refused : (offset : ℕ) (why : ChangeError) (x : List Payload) (ds : List Change) (v : ℕ) →
      x ≡ d → ds ≡ cs → RefusedAt offset why input x ds v → ⊥
  never_refused offset why x ds v same same' r =
      not_refused r.others why d'
      (sym (ap (after_all r.others) r.wrong)
      ∙ sym (ap (after_all (r.refused ∷ r.others)) r.allowed)
      ∙ sym (after_append r.before (r.refused ∷ r.others) (Ok x))
      ∙ sym (ap (λ l. after_all l (Ok x)) r.all)
      ∙ (λ i. after_all (same' i) (Ok (same i))) ∙ all)

  pub applied : (r : Result ℕ ApplyFault) → e.version ≡ e'.version → e.session ≡ e'.session →
      AppliesChanges r base input before after → IsApplied r (data_form d' e') before after
  applied (Ok n) v s w = same_form (Some n) w
  applied (Err NoRoom) v s w = same_form None w
  applied (Err (Data f)) v s (flaw, kept) = absurd (flaw.none (d, e, h))
  applied (Err (Changes f)) v s ((some, flaw), kept) = absurd (flaw.none (cs, e', j))
  applied (Err (UnitVersion n)) v s ((x, c, ds, c', k, l, (not, is)), kept) =
      let p = one_data base x d c e k h in
      let q = one_changes input ds cs c' e' l j in
      absurd (not (ap (λ (m : EndMeaning). m.version) p.1 ∙ v
      ∙ sym (ap (λ (m : EndMeaning). m.version) q.1)))
  applied (Err (Session n)) v s ((x, c, ds, c', k, l, (same, not, is)), kept) =
      let p = one_data base x d c e k h in
      let q = one_changes input ds cs c' e' l j in
      absurd (not (ap (λ (m : EndMeaning). m.session) p.1 ∙ s
      ∙ sym (ap (λ (m : EndMeaning). m.session) q.1)))
  applied (Err (Duplicate offset)) v s ((x, c, ds, c', k, l, (sv, ss, r)), kept) =
      absurd (never_refused offset _ x ds c'.version (one_data base x d c e k h).0
      (one_changes input ds cs c' e' l j).0 r)
  applied (Err (Unknown offset)) v s ((x, c, ds, c', k, l, (sv, ss, r)), kept) =
      absurd (never_refused offset _ x ds c'.version (one_data base x d c e k h).0
      (one_changes input ds cs c' e' l j).0 r)

pub room : (r : Result ℕ ApplyFault) (form before after : List ℕ) →
    IsApplied r form before after → length form ≤ length before → IsOk r
room (Ok n) form before after w enough = refl
room (Err NoRoom) form before after w enough = absurd (omega (arith, w.0, enough))
room (Err (Data f)) form before after w enough = absurd w
room (Err (Changes f)) form before after w enough = absurd w
room (Err (UnitVersion v)) form before after w enough = absurd w
room (Err (Session s)) form before after w enough = absurd w
room (Err (Duplicate n)) form before after w enough = absurd w
room (Err (Unknown n)) form before after w enough = absurd w

pub makes_new : (r : Result ℕ ApplyFault) (old new rest before after : List ℕ)
    (d d' : List Payload) (e e' : EndMeaning) → HoldsData old d e → HoldsData new d' e' →
    e.version ≡ e'.version → e.session ≡ e'.session →
    AppliesChanges r old (delta_form d d' e' ++ rest) before after →
    IsApplied r (data_form d' e') before after
makes_new r old new rest before after d d' e e' h j version session w =
    applied old (delta_form d d' e' ++ rest) before after d d' (changes d d') e e' h
    (holds_delta old new d d' e e' h j version rest)
    (leads_to_new d d' h.in_order j.in_order) r version session w
