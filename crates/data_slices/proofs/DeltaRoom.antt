-- A delta is never longer than the two data that it is made of.
use Rattle.std.proofs.Common.{◌≡◌, ◌≢◌, ℕ, ◌+◌, ◌≤◌, Bool, true, false, not, cond, List, [], ◌∷◌}
use Rattle.std.proofs.Common.{◌++◌, length, map, filter, Option, Some, None}
use Rattle.std.proofs.Common.{Result, Ok, Err, refl, ap, ◌∙◌, arith}
use Rattle.std.proofs.Common.{length-append}
use Rattle.std.proofs.lemmas.List.{map-append}
use Rattle.rtr_base.specs.Addresses.{Family, v4, v6}
use Rattle.rtr_base.specs.Bytes.{be, words}
use Rattle.rtr_base.specs.declared.timing.Timing.{Timing}
use Rattle.rtr_units.specs.End.{EndMeaning, end_list, timed_list}
use Rattle.rtr_payload.specs.Payloads.{Meaning, Payload, origin, key, aspa}
use Rattle.rtr_payload.specs.Units.{form_of}
use Rattle.rtr_wire.specs.Sequences.{AreUnits, end_for, forms}
use Rattle.rtr_wire.proofs.IntoRoom.{unit_fits}
use Rattle.rtr_wire.proofs.Push.{forms_append}
use Rattle.data_memory.specs.Changes.{announcements, changes, withdrawals}
use Rattle.data_memory.specs.Data.{Change, announcement, withdrawal, has, has_name}
use Rattle.data_memory.specs.Deltas.{change_forms, unit_of}
use Rattle.data_slices.specs.Canonical.{HoldsData}
use Rattle.data_slices.specs.Delta.{Deltas, delta_form}
use Rattle.data_slices.specs.declared.fault.DeltaFault.{DeltaFault}
use Rattle.data_slices.specs.declared.fault.DeltaFault.TheVariants.{Old, New, UnitVersion, Session}
use Rattle.data_slices.specs.declared.fault.DeltaFault.TheVariants.{NoRoom}

-- ---- the form of a unit is no longer than the unit

pub units_fit : (us : List ℕ) (ms : List Meaning) → AreUnits us ms → length (forms ms) ≤ length us
units_fit us [] h = omega arith
units_fit us (m ∷ ms) (first, rest, parts, unit, others) =
    omega (
      arith,
      unit_fits first m unit,
      units_fit rest ms others,
      ap length parts,
      length-append first rest,
      length-append (form_of m) (forms ms),
    )

-- ---- a withdrawal is no longer than an announcement, and some payloads no longer than all

withdrawn_fits : (v w : ℕ) (p : Payload) →
    length (form_of (unit_of v (withdrawal p))) ≤ length (form_of (unit_of w (announcement p)))
withdrawn_fits v w (origin o) = by_family o.family refl
  where
    by_family : (f : Family) → o.family ≡ f →
        length (form_of (unit_of v (withdrawal (origin o)))) ≤
        length (form_of (unit_of w (announcement (origin o))))
    by_family v4 e = rw e (omega arith)
    by_family v6 e = rw e (omega arith)
withdrawn_fits v w (key k) = omega arith
withdrawn_fits v w (aspa a) =
    omega (
      arith,
      length-append (be a.customer 4) (words a.providers),
      length-append (be a.customer 4) (words []),
    )

announced_fits : (v w : ℕ) (p : Payload) →
    length (form_of (unit_of v (announcement p))) ≤ length (form_of (unit_of w (announcement p)))
announced_fits v w (origin o) = by_family o.family refl
  where
    by_family : (f : Family) → o.family ≡ f →
        length (form_of (unit_of v (announcement (origin o)))) ≤
        length (form_of (unit_of w (announcement (origin o))))
    by_family v4 e = rw e (omega arith)
    by_family v6 e = rw e (omega arith)
announced_fits v w (key k) = omega arith
announced_fits v w (aspa a) = omega arith

abbrev pub announced_size : ℕ → List Payload → ℕ
announced_size v ps = length (change_forms v (map announcement ps))

-- in whatever version
module _ (v w : ℕ) (to : Payload → Change)
    (fits : (p : Payload) →
    length (form_of (unit_of v (to p))) ≤ length (form_of (unit_of w (announcement p))))
    (keeps : Payload → Bool) where
  one_more : (p : Payload) (ps kept : List Payload) →
      length (change_forms v (map to kept)) ≤ announced_size w ps → (b : Bool) →
      length (change_forms v (map to (cond b (p ∷ kept) kept))) ≤ announced_size w (p ∷ ps)
  one_more p ps kept few true =
      let first = form_of (unit_of w (announcement p)) in
      let changed = form_of (unit_of v (to p)) in
      omega (
        arith,
        few,
        fits p,
        length-append changed (change_forms v (map to kept)),
        length-append first (change_forms w (map announcement ps)),
      )
  one_more p ps kept few false =
      let first = form_of (unit_of w (announcement p)) in
      omega (arith, few, length-append first (change_forms w (map announcement ps)))

  some_fit : (ps : List Payload) →
      length (change_forms v (map to (filter keeps ps))) ≤ announced_size w ps
  some_fit [] = omega arith
  some_fit (p ∷ ps) = one_more p ps (filter keeps ps) (some_fit ps) (keeps p)

-- ---- a delta

-- data, without its end, announced once more
pub data_fits : (input : List ℕ) (d : List Payload) (e : EndMeaning) → HoldsData input d e →
    announced_size e.version d + length (end_list e) ≤ length input
data_fits input d e h =
    let s = h.accepts.sequence in
    omega (
      arith,
      units_fit s.front (map (unit_of e.version) (map announcement d)) s.units,
      ap length s.end.bytes,
      ap length s.parts,
      length-append s.front s.last,
      ap length h.accepts.parts,
      length-append h.bytes h.accepts.rest,
    )

pub changes_fit : (v : ℕ) (old new : List ℕ) (d d' : List Payload) (e e' : EndMeaning) →
    HoldsData old d e → HoldsData new d' e' →
    length (change_forms v (changes d d')) + length (end_list e) + length (end_list e') ≤
    length old + length new
changes_fit v old new d d' e e' h j =
    let joined : change_forms v (changes d d') ≡
    change_forms v (announcements d d') ++ change_forms v (withdrawals d d') =
    ap forms (map-append (unit_of v) (announcements d d') (withdrawals d d'))
    ∙ forms_append (map (unit_of v) (announcements d d')) (map (unit_of v) (withdrawals d d')) in
    omega (
      arith,
      data_fits old d e h,
      data_fits new d' e' j,
      some_fit v e'.version announcement (announced_fits v e'.version) (λ p. not (has d p)) d',
      some_fit v e.version withdrawal (withdrawn_fits v e.version) (λ p. not (has_name d' p)) d,
      ap length joined,
      length-append (change_forms v (announcements d d')) (change_forms v (withdrawals d d')),
    )

delta_fits : (old new : List ℕ) (d d' : List Payload) (e e' : EndMeaning) → HoldsData old d e →
    HoldsData new d' e' → length (delta_form d d' e') ≤ length old + length new
delta_fits old new d d' e e' h j =
    omega (
      arith,
      changes_fit e'.version old new d d' e e' h j,
      length-append (change_forms e'.version (changes d d')) (end_list e'),
    )

-- an end of data has 12 bytes at least, and in a later version 12 more at most
end_least : (v s q : ℕ) (t : Option Timing) → 12 ≤ length (timed_list v s q t)
end_least v s q None = omega arith
end_least v s q (Some t) = omega arith

end_grows : (v w s q : ℕ) (t u : Option Timing) →
    length (timed_list v s q t) ≤ length (timed_list w s q u) + 12
end_grows v w s q None None = omega arith
end_grows v w s q None (Some u) = omega arith
end_grows v w s q (Some t) None = omega arith
end_grows v w s q (Some t) (Some u) = omega arith

pub between_fits : (old new : List ℕ) (d d' : List Payload) (e e' : EndMeaning) (v : ℕ) →
    HoldsData old d e → HoldsData new d' e' →
    length (delta_form d d' (end_for v e')) ≤ length old + length new
between_fits old new d d' e e' v h j =
    omega (
      arith,
      changes_fit v old new d d' e e' h j,
      end_least e.version e.session e.serial e.timing,
      end_grows v e'.version e'.session e'.serial (end_for v e').timing e'.timing,
      length-append (change_forms v (changes d d')) (end_list (end_for v e')),
    )

-- ---- there is room for it

pub enough_room : (r : Result ℕ DeltaFault) (old new before after : List ℕ) →
    Deltas r old new before after → length old + length new ≤ length before → r ≢ Err NoRoom
enough_room (Ok n) old new before after w enough e = absurd cc
enough_room (Err NoRoom) old new before after
    (d, e, d', e', h, j, (same, session, placed)) enough is =
    absurd (omega (arith, delta_fits old new d d' e e' h j, placed.0, enough))
enough_room (Err (Old f)) old new before after w enough e = absurd cc
enough_room (Err (New f)) old new before after w enough e = absurd cc
enough_room (Err (UnitVersion v)) old new before after w enough e = absurd cc
enough_room (Err (Session s)) old new before after w enough e = absurd cc
