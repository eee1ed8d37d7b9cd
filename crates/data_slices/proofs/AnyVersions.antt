-- The changes between data of any versions and sessions.
use Rattle.std.proofs.Common.{◌≡◌, ◌≢◌, inl, inr, ◌+◌, ◌≤◌, max, ℕ, List, [], length}
use Rattle.std.proofs.Common.{Option, Some, None, Result, Ok, Err, refl, sym, ap, subst, ◌∙◌}
use Rattle.std.proofs.Common.{arith}
use Rattle.std.specs.Prelude.{ok_or}
use Rattle.std.proofs.lemmas.List.{append-nil, length-append}
use Rattle.rtr_units.specs.End.{EndMeaning, IsEnd, end_list}
use Rattle.rtr_payload.specs.Payloads.{Payload}
use Rattle.rtr_wire.specs.Sequences.{end_for}
use Rattle.data_memory.specs.Changes.{changes}
use Rattle.data_memory.specs.Deltas.{change_forms}
use Rattle.data_memory.proofs.Versions.{no_data}
use Rattle.data_slices.specs.Canonical.{HoldsData, PlacesFront}
use Rattle.data_slices.specs.Delta.{ChangesBetween, IsPlaced, WritesChanges, delta_form}
use Rattle.data_slices.specs.PrivateOrder.{PlacesDelta}
use Rattle.data_slices.specs.declared.fault.DeltaFault.{DeltaFault}
use Rattle.data_slices.specs.declared.fault.DeltaFault.TheVariants.{Old, New, UnitVersion, Session}
use Rattle.data_slices.specs.declared.fault.DeltaFault.TheVariants.{NoRoom}
use Rattle.data_slices.proofs.DeltaRoom.{between_fits, changes_fit}
use Rattle.data_slices.proofs.Deltas.{delta_at}
use Rattle.data_slices.proofs.Merging.{well}
use Rattle.data_slices.proofs.OneData.{one_data}

-- an end of data alone is data of no payloads
pub alone : (last : List ℕ) (e : EndMeaning) → IsEnd last e → HoldsData last [] e
alone last e is = record {
  bytes = last;
  accepts = record {
    rest = [];
    parts = sym (append-nil last);
    sequence = record { front = []; last = last; parts = refl; units = refl; end = is };
  };
  in_order = no_data;
}

-- nothing isn't data
no_data_there : (d : List Payload) (e : EndMeaning) → HoldsData [] d e → ⊥
no_data_there d e h = let n = well [] d e h in absurd cc

pub told : (r : Option ℕ) (old new before after : List ℕ) →
    WritesChanges r old new before after →
    ChangesBetween (ok_or r NoRoom) old new before after
told (Some n) old new before after w = w
told None old new before after w = w

pub from_none : (r : Option ℕ) (new last before after : List ℕ) (v : ℕ) (d : List Payload)
    (e : EndMeaning) → v ≡ e.version → IsEnd last e → HoldsData new d e →
    PlacesDelta r last new v last before after → WritesChanges r [] new before after
from_none r new last before after v d e is end h placed =
    inr (inl (
      refl,
      (
        d,
        e,
        h,
        delta_at r last new before after [] d e e e v last is end.bytes
            (alone last e end) h placed,
      ),
    ))

pub to_none : (r : Option ℕ) (old new last before after : List ℕ) (v : ℕ) (d : List Payload)
    (e : EndMeaning) → new ≡ [] → v ≡ e.version → IsEnd last e → HoldsData old d e →
    PlacesDelta r old last v last before after → WritesChanges r old new before after
to_none r old new last before after v d e empty is end h placed =
    inr (inr (
      empty,
      (
        d,
        e,
        h,
        delta_at r old last before after d [] e e e v last is end.bytes
            h (alone last e end) placed,
      ),
    ))

pub to_data : (r : Option ℕ) (old new last before after : List ℕ) (v : ℕ) (d d' : List Payload)
    (e e' : EndMeaning) → v ≡ max e.version e'.version → last ≡ end_list (end_for v e') →
    HoldsData old d e → HoldsData new d' e' → PlacesDelta r old new v last before after →
    WritesChanges r old new before after
to_data r old new last before after v d d' e e' is ends h j placed =
    inl (
      d,
      e,
      d',
      e',
      h,
      j,
      delta_at r old new before after d d' e e' (end_for (max e.version e'.version) e') v last is
          (ends ∙ ap (λ w. end_list (end_for w e')) is) h j placed,
    )

-- ---- there is room for them

-- all of the data announced, or withdrawn
all_fit : (input : List ℕ) (d : List Payload) (e : EndMeaning) → HoldsData input d e →
    (length (delta_form [] d e) ≤ length input) × (length (delta_form d [] e) ≤ length input)
all_fit input d e h =
    let s = h.accepts.sequence in
    let none = alone s.last e s.end in (
      omega (
        arith,
        changes_fit e.version s.last input [] d e e none h,
        ap length s.end.bytes,
        length-append (change_forms e.version (changes [] d)) (end_list e),
      ),
      omega (
        arith,
        changes_fit e.version input s.last d [] e e h none,
        ap length s.end.bytes,
        length-append (change_forms e.version (changes d [])) (end_list e),
      ),
    )

no_want : (old new before after : List ℕ) → WritesChanges None old new before after →
    length old + length new ≤ length before → ⊥
no_want old new before after (inl (d, e, d', e', h, j, placed)) enough =
    omega (arith, between_fits old new d d' e e' (max e.version e'.version) h j, placed.0, enough)
no_want old new before after (inr (inl (empty, (d, e, h, placed)))) enough =
    omega (arith, (all_fit new d e h).0, placed.0, enough)
no_want old new before after (inr (inr (empty, (d, e, h, placed)))) enough =
    omega (arith, (all_fit old d e h).1, placed.0, enough)

pub enough_room : (r : Result ℕ DeltaFault) (old new before after : List ℕ) →
    ChangesBetween r old new before after → length old + length new ≤ length before →
    r ≢ Err NoRoom
enough_room (Ok n) old new before after w enough e = absurd cc
enough_room (Err NoRoom) old new before after w enough e =
    absurd (no_want old new before after w enough)
enough_room (Err (Old f)) old new before after w enough e = absurd cc
enough_room (Err (New f)) old new before after w enough e = absurd cc
enough_room (Err (UnitVersion v)) old new before after w enough e = absurd cc
enough_room (Err (Session s)) old new before after w enough e = absurd cc

-- ---- of two data

module _ (old new before after : List ℕ) (d d' : List Payload) (e e' : EndMeaning)
    (h : HoldsData old d e) (j : HoldsData new d' e') where
  same_changes : (n : Option ℕ) → WritesChanges n old new before after →
      PlacesFront n (delta_form d d' (end_for (max e.version e'.version) e')) before after
  same_changes n (inl (x, c, x', c', k, l, placed)) =
      let s = one_data old x d c e k h in
      let t = one_data new x' d' c' e' l j in
      subst (λ form. PlacesFront n form before after)
      (λ i. delta_form (s.0 i) (t.0 i)
      (end_for (max (s.1 i).version (t.1 i).version) (t.1 i))) placed
  same_changes n (inr (inl (empty, w))) =
      absurd (no_data_there d e (subst (λ l. HoldsData l d e) empty h))
  same_changes n (inr (inr (empty, w))) =
      absurd (no_data_there d' e' (subst (λ l. HoldsData l d' e') empty j))

  pub written : (r : Result ℕ DeltaFault) → ChangesBetween r old new before after →
      IsPlaced r (delta_form d d' (end_for (max e.version e'.version) e')) before after
  written (Ok n) w = same_changes (Some n) w
  written (Err NoRoom) w = same_changes None w
  written (Err (Old f)) ((some, flaw), kept) = absurd (flaw.none (d, e, h))
  written (Err (New f)) ((some, flaw), kept) = absurd (flaw.none (d', e', j))
  written (Err (UnitVersion v)) (never, kept) = absurd never
  written (Err (Session s)) (never, kept) = absurd never

-- ---- of data and none

module _ (input before after : List ℕ) (d : List Payload) (e : EndMeaning)
    (h : HoldsData input d e) where
  all_announced : (n : Option ℕ) → WritesChanges n [] input before after →
      PlacesFront n (delta_form [] d e) before after
  all_announced n (inl (x, c, x', c', k, l, placed)) = absurd (no_data_there x c k)
  all_announced n (inr (inl (empty, (x, c, k, placed)))) =
      let s = one_data input x d c e k h in
      subst (λ form. PlacesFront n form before after)
      (λ i. delta_form [] (s.0 i) (s.1 i)) placed
  all_announced n (inr (inr (empty, (x, c, k, placed)))) = absurd (no_data_there x c k)

  pub announced : (r : Result ℕ DeltaFault) → ChangesBetween r [] input before after →
      IsPlaced r (delta_form [] d e) before after
  announced (Ok n) w = all_announced (Some n) w
  announced (Err NoRoom) w = all_announced None w
  announced (Err (Old f)) ((some, flaw), kept) = absurd (some refl)
  announced (Err (New f)) ((some, flaw), kept) = absurd (flaw.none (d, e, h))
  announced (Err (UnitVersion v)) (never, kept) = absurd never
  announced (Err (Session s)) (never, kept) = absurd never

  all_withdrawn : (n : Option ℕ) → WritesChanges n input [] before after →
      PlacesFront n (delta_form d [] e) before after
  all_withdrawn n (inl (x, c, x', c', k, l, placed)) = absurd (no_data_there x' c' l)
  all_withdrawn n (inr (inl (empty, (x, c, k, placed)))) = absurd (no_data_there x c k)
  all_withdrawn n (inr (inr (empty, (x, c, k, placed)))) =
      let s = one_data input x d c e k h in
      subst (λ form. PlacesFront n form before after)
      (λ i. delta_form (s.0 i) [] (s.1 i)) placed

  pub withdrawn : (r : Result ℕ DeltaFault) → ChangesBetween r input [] before after →
      IsPlaced r (delta_form d [] e) before after
  withdrawn (Ok n) w = all_withdrawn (Some n) w
  withdrawn (Err NoRoom) w = all_withdrawn None w
  withdrawn (Err (Old f)) ((some, flaw), kept) = absurd (flaw.none (d, e, h))
  withdrawn (Err (New f)) ((inl empty, flaw), kept) =
      absurd (no_data_there d e (subst (λ l. HoldsData l d e) empty h))
  withdrawn (Err (New f)) ((inr (some, has), flaw), kept) = absurd (some refl)
  withdrawn (Err (UnitVersion v)) (never, kept) = absurd never
  withdrawn (Err (Session s)) (never, kept) = absurd never
