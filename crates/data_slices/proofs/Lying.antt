-- Changes of units at offsets that rise.
use Rattle.std.proofs.Common.{◌≡◌, ◌≤◌, ℕ, List, [], ◌∷◌, Option, None, Ok, refl}
use Rattle.std.proofs.Common.{sym, ap, subst, ◌++◌, append-nil, arith, inl, inr, map}
use Rattle.std.specs.List.{AllByRecursion}
use Rattle.std.specs.List.Sorted.{IsPermutation, IsStrictlySortedBy}
use Rattle.rtr_base.specs.Bytes.{IsBytes}
use Rattle.rtr_base.specs.declared.action.Action.{Action}
use Rattle.rtr_base.specs.declared.action.Action.TheVariants.{Announce}
use Rattle.rtr_units.specs.End.{EndMeaning, IsEndMeaning, end_list}
use Rattle.rtr_units.proofs.Ends.{end_made}
use Rattle.rtr_payload.specs.Payloads.{Payload}
use Rattle.rtr_payload.proofs.Fields.{form_is_unit}
use Rattle.rtr_payload.specs.Units.{IsUnit}
use Rattle.data_memory.specs.Changes.{after_all}
use Rattle.data_memory.specs.Data.{Change, IsData, announcement}
use Rattle.data_memory.specs.Deltas.{change_forms, unit_of}
use Rattle.data_memory.proofs.Fewest.{after_all_data}
use Rattle.data_slices.specs.Apply.{data_form}
use Rattle.data_slices.specs.AtOffsets.{ChecksAt, FirstOf, HaveUnits, IsBase, LieAt}
use Rattle.data_slices.specs.AtOffsets.{Over, Up, WritesMade, made_by, offsets_of}
use Rattle.data_slices.specs.Canonical.{HoldsData}
use Rattle.data_slices.specs.PrivateChanges.{HoldsUnits}
use Rattle.data_slices.specs.PrivateInOrder.{FindsEarliest, pairs}
use Rattle.data_slices.specs.PrivateMade.{PlacesMadeAll}
use Rattle.data_slices.specs.PrivateOffsets.{SortsOffsets}
use Rattle.data_slices.proofs.MadeData.{IsKept, after_more}
use Rattle.data_slices.proofs.MadeInOrder.{made_if}
use Rattle.data_slices.proofs.Reapplied.{same_made}
use Rattle.data_slices.proofs.Refusal.{first_of, in_row}
use Rattle.data_slices.proofs.Sent.{AreSent, all_sent, announced_sent}
use Rattle.data_slices.proofs.SortedOffsets.{InOrder, Rise, in_order_at}
use Rattle.data_slices.proofs.Units.{none_at_nothing, of_data}

-- ---- offsets and changes

pairs_of : (xs : List (ℕ × Change)) → pairs (offsets_of xs) (made_by xs) ≡ xs
pairs_of [] = refl
pairs_of (x ∷ xs) = ap (λ l. x ∷ l) (pairs_of xs)

rises_from : (n : ℕ) (xs : List (ℕ × Change)) → Over n xs →
    AllByRecursion (λ y. n ≤ y) (offsets_of xs)
rises_from n [] a = tt
rises_from n (x ∷ xs) (g, a) = (omega arith, rises_from n xs a)

rises : (xs : List (ℕ × Change)) → Up xs → Rise (offsets_of xs)
rises [] u = tt
rises (x ∷ xs) (a, u) = (rises_from x.0 xs a, rises xs u)

pub sorted_at : (input os : List ℕ) (v : ℕ) (xs : List (ℕ × Change)) (ps : List ℕ) →
    IsBytes input → os ≡ offsets_of xs → LieAt input v xs → IsPermutation os ps →
    SortsOffsets input ps → InOrder input (offsets_of xs) (made_by xs) v ps
sorted_at input os v xs ps bytes is l perm sorted =
    in_order_at input (offsets_of xs) (made_by xs) v ps bytes l.units (rises xs l.rising)
    (subst (λ l. IsPermutation l ps) is perm) sorted

-- ---- the data

no_data : IsData []
unfolding IsStrictlySortedBy
no_data = tt

of_base : (v : ℕ) (base : List ℕ) (d : List Payload) → IsBase v base d →
    HoldsUnits Announce v base d
of_base v base d (inl (none, empty)) =
    subst (λ l. HoldsUnits Announce v l d) (sym none)
    (subst (HoldsUnits Announce v []) (sym empty) (record {
      bytes = [];
      rest = [];
      parts = refl;
      units = refl;
      in_order = no_data;
      ends = none_at_nothing;
    }))
of_base v base d (inr (e, is, h)) =
    subst (λ w. HoldsUnits Announce w base d) is (of_data base d e h)

base_sent : (v : ℕ) (base : List ℕ) (d : List Payload) → IsBase v base d →
    AreSent v announcement d
base_sent v base d (inl (none, empty)) = subst (AreSent v announcement) (sym empty) tt
base_sent v base d (inr (e, is, h)) =
    let q = h.accepts.sequence in
    subst (λ w. AreSent w announcement d) is (announced_sent e.version q.front d q.units)

-- ---- what the changes make

units_kept : (input : List ℕ) (v : ℕ) (os : List ℕ) (cs : List Change) → HaveUnits input v os cs →
    AllByRecursion (IsKept v) cs
units_kept input v [] [] h = tt
units_kept input v [] (c ∷ cs) h = absurd h
units_kept input v (o ∷ os) [] h = absurd h
units_kept input v (o ∷ os) (c ∷ cs) (h, hs) = (
  λ is.
      form_is_unit h.bytes (unit_of v (announcement c.payload))
      (subst (λ a. IsUnit h.bytes (unit_of v (record { action = a; payload = c.payload }))) is
      h.unit),
  units_kept input v os cs hs,
)

holds_made : (input base : List ℕ) (d d' : List Payload) (xs : List (ℕ × Change))
    (e : EndMeaning) → IsEndMeaning e → IsBase e.version base d → LieAt input e.version xs →
    after_all (made_by xs) (Ok d) ≡ Ok d' → HoldsData (data_form d' e) d' e
holds_made input base d d' xs e fits b l made =
    let v = e.version in
    let sent = base_sent v base d b in
    let kept = units_kept input v (offsets_of xs) (made_by xs) l.units in
    let new = after_more v (made_by xs) (Ok d) d' kept
    (λ x is. subst (AreSent v announcement) (same_made d x is) sent) made in
    record {
      bytes = data_form d' e;
      accepts = record {
        rest = [];
        parts = whole (data_form d' e);
        sequence = record {
          front = change_forms v (map announcement d');
          last = end_list e;
          parts = refl;
          units = all_sent v announcement d' new;
          end = end_made e fits;
        };
      };
      in_order = after_all_data (made_by xs) d d' (of_base v base d b).in_order made;
    }
  where
    whole : (b : List ℕ) → b ≡ b ++ []
    whole b = sym (append-nil b)

-- ---- the calls

module _ (base input os ps : List ℕ) (bytes : IsBytes input) (perm : IsPermutation os ps)
    (sorted : SortsOffsets input ps) where
  module _ (v w : ℕ) (d : List Payload) (xs : List (ℕ × Change)) (b : IsBase w base d)
      (is : os ≡ offsets_of xs) (l : LieAt input v xs) (x : Option (ℕ × Action))
      (f : FindsEarliest x base input ps) where
    order : InOrder input (offsets_of xs) (made_by xs) v ps
    order = sorted_at input os v xs ps bytes is l perm sorted

    pub first_at : FirstOf x xs d
    first_at =
        let held = of_base w base d b in
        subst (λ ys. FirstOf x ys d) (pairs_of xs)
        (first_of input (offsets_of xs) (made_by xs) v l.units
        (subst Up (sym (pairs_of xs)) l.rising) ps order d held.in_order x
        (f v w d order.ds held order.units (in_row order.ds order.ordered)))

  pub checks : (x : Option (ℕ × Action)) → FindsEarliest x base input ps →
      ChecksAt x base input os
  checks x f v w d xs b is l = first_at v w d xs b is l x f

  pub writes : (e : EndMeaning) (before after : List ℕ) → IsEndMeaning e →
      FindsEarliest None base input ps → (n : Option ℕ) →
      PlacesMadeAll n base input ps e before after → (d : List Payload) (xs : List (ℕ × Change)) →
      IsBase e.version base d → os ≡ offsets_of xs → LieAt input e.version xs →
      WritesMade n xs d e before after
  writes e before after fits f n placed d xs b is l =
      let v = e.version in
      let (made, all) = first_at v v d xs b is l None f in
      let held = of_base v base d b in (
        made,
        all,
        holds_made input base d made xs e fits b l all,
        made_if input (offsets_of xs) (made_by xs) e ps (order v v d xs b is l None f) d
            held.in_order made all base before after held n placed,
      )
