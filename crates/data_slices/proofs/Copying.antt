-- Data up to a name, written.
use Rattle.std.proofs.Common.{◌≡◌, ℕ, ◌+◌, ◌-◌, ◌≤◌, List, [], ◌∷◌, ◌++◌, length, map, Option, Some}
use Rattle.std.proofs.Common.{None, refl, sym, ap, subst, ◌∙◌, append_assoc, append-nil, arith}
use Rattle.std.proofs.Common.{drop, take, inl, inr}
use Rattle.std.proofs.lemmas.List.{length-append, length-drop, map-append, take-append-drop}
use Rattle.std.specs.declared.cmp.Ordering.TheVariants.{Less}
use borrow.Rule.Slice.PartMut.{put_mid}
use Rattle.rtr_base.specs.declared.action.Action.TheVariants.{Announce}
use Rattle.rtr_payload.specs.Payloads.{Meaning, Payload}
use Rattle.rtr_payload.specs.Units.{form_of}
use Rattle.unit_views.specs.Placing.{Places}
use Rattle.data_memory.specs.Data.{announcement, name_cmp}
use Rattle.data_memory.specs.Deltas.{change_forms}
use Rattle.data_memory.proofs.Segments.{all_append}
use Rattle.data_slices.specs.Canonical.{PlacesFront}
use Rattle.data_slices.specs.Items.{meant}
use Rattle.data_slices.specs.PrivateChanges.{HoldsUnits, IsNext, IsUnder, NoUnit}
use Rattle.data_slices.specs.PrivateMade.{AllBelow, Copies, IsBelowBound, NoneBelow, StartsOver}
use Rattle.data_slices.specs.PrivateMade.{forms_of}
use Rattle.data_slices.specs.declared.item.PayloadView.{PayloadView}
use Rattle.data_slices.proofs.Deltas.{forms_append}
use Rattle.data_slices.proofs.Merging.{Written, full, more, put_is, rest_is, rest_of}
use Rattle.data_slices.proofs.Units.{Head, head, nothing}

pub forms_of_append : (v : ℕ) (xs ys : List Payload) →
    forms_of v (xs ++ ys) ≡ forms_of v xs ++ forms_of v ys
forms_of_append v xs ys =
    ap (λ l. change_forms v l) (map-append announcement xs ys)
    ∙ forms_append v (map announcement xs) (map announcement ys)

-- how far data were written
pub record Copied (bound : Option PayloadView) (v : ℕ) (d : List Payload) (rest before now : List ℕ)
    (written : ℕ) : Type 0 where
  pub xs : List Payload
  pub ys : List Payload
  pub all : d ≡ xs ++ ys
  pub below : AllBelow bound xs
  pub held : HoldsUnits Announce v rest ys
  pub so_far : Written (forms_of v xs) before now written

pub record Copying (bound : Option PayloadView) (base rest before now : List ℕ)
    (written : ℕ) : Type 0 where
  pub fits : written ≤ length before
  pub room : length now ≡ length before
  pub each : (v : ℕ) (d : List Payload) → HoldsUnits Announce v base d →
      Copied bound v d rest before now written

pub begins : (bound : Option PayloadView) (base before : List ℕ) →
    Copying bound base base before before 0
begins bound base before = record {
  fits = omega arith;
  room = refl;
  each = λ v d h. record {
    xs = [];
    ys = d;
    all = refl;
    below = tt;
    held = h;
    so_far = record { size = refl; fits = omega arith; output = refl };
  };
}

-- the length of an output of which the rest was written
pub same_room : (before now part form : List ℕ) (written n : ℕ) → written ≤ length before →
    length now ≡ length before → PlacesFront (Some n) form (rest_of written now) part →
    (length (put_mid written (length now - written) now part) ≡ length before)
    × (written + n ≤ length before)
same_room before now part form written n fits room (is, le, out) = (
  omega (
    arith,
    ap length (put_is written now part),
    length-append (take written now) part,
    ap length (take-append-drop written now),
    length-append (take written now)
        (drop written now),
    ap length out,
    length-append form (drop n (rest_of written now)),
    length-drop n (rest_of written now),
    ap length (rest_is written now),
    is,
    le,
    room,
  ),
  omega (arith, le, ap length (rest_is written now), length-drop written now, fits, room),
)

pub stays_long : (before now part : List ℕ) (written n : ℕ) → written ≤ length before →
    length now ≡ length before → n ≤ length (rest_of written now) →
    length part ≡ length (rest_of written now) →
    (length (put_mid written (length now - written) now part) ≡ length before)
    × (written + n ≤ length before)
stays_long before now part written n fits room le long = (
  omega (
    arith,
    ap length (put_is written now part),
    length-append (take written now) part,
    ap length (take-append-drop written now),
    length-append (take written now) (drop written now),
    ap length (rest_is written now),
    long,
    room,
  ),
  omega (arith, le, ap length (rest_is written now), length-drop written now, fits, room),
)

module _ (bound : Option PayloadView) (base rest before now : List ℕ) (written : ℕ)
    (k : Copying bound base rest before now written) where
  copies : (v : ℕ) (d : List Payload) (g : Copied bound v d rest before now written) →
      Copies (Some written) bound v d before now
  copies v d g = record {
    xs = g.xs;
    ys = g.ys;
    all = g.all;
    below = g.below;
    placed = (g.so_far.size, g.so_far.fits, g.so_far.output);
  }

  ends_at_none : NoUnit rest → (v : ℕ) (d : List Payload) → HoldsUnits Announce v base d →
      (c : Copies (Some written) bound v d before now) × StartsOver bound c.ys
      × HoldsUnits Announce v rest c.ys
  unfolding copies
  ends_at_none none v d h =
      let g = k.each v d h in
      let no : g.ys ≡ [] = nothing Announce v rest g.ys none g.held in
      (copies v d g, subst (StartsOver bound) (sym no) tt, g.held)

  module _ (view : PayloadView) (left : List ℕ) (next : IsNext view left rest) where
    as_bound : (b : Option PayloadView) (p : Payload) → (meant view).payload ≡ p →
        IsBelowBound p b → IsUnder view b
    as_bound None p e h = tt
    as_bound (Some b) p e h =
        subst (λ q. name_cmp q (meant b).payload ≡ Less) (sym e) h

    of_bound : (b : Option PayloadView) (p : Payload) → (meant view).payload ≡ p →
        IsUnder view b → IsBelowBound p b
    of_bound None p e h = tt
    of_bound (Some b) p e h =
        subst (λ q. name_cmp q (meant b).payload ≡ Less) e h

    ends_over : (IsUnder view bound → ⊥) → (v : ℕ) (d : List Payload) →
        HoldsUnits Announce v base d →
        (c : Copies (Some written) bound v d before now) × StartsOver bound c.ys
        × HoldsUnits Announce v rest c.ys
    unfolding copies
    ends_over over v d h =
        let g = k.each v d h in
        let f = head Announce v view left rest g.ys next g.held in (
          copies v d g,
          subst (StartsOver bound) (sym f.all)
              (λ b. over (as_bound bound f.first (ap (λ (m : Meaning). m.payload) f.means) b)),
          g.held,
        )

    module _ (part : List ℕ) where
      form_is : (v : ℕ) (ys : List Payload) (f : Head Announce v view left ys) →
          form_of (meant view) ++ [] ≡ forms_of v (f.first ∷ [])
      form_is v ys f = ap (λ m. form_of m ++ []) f.means

      pub goes_on : IsUnder view bound → (n : ℕ) →
          Places (Some n) (form_of (meant view)) (rest_of written now) part →
          Copying bound base left before (put_mid written (length now - written) now part)
          (written + n)
      goes_on under n placed =
          let (room, fits) = same_room before now part (form_of (meant view)) written n k.fits
          k.room placed in
          record {
            fits = fits;
            room = room;
            each = λ v d h.
                let g = k.each v d h in
                let f = head Announce v view left rest g.ys next g.held in
                record {
                  xs = g.xs ++ f.first ∷ [];
                  ys = f.others;
                  all =
                      g.all ∙ ap (λ l. g.xs ++ l) f.all
                      ∙ sym (append_assoc g.xs (f.first ∷ []) f.others);
                  below =
                      all_append (λ x. IsBelowBound x bound) g.xs (f.first ∷ []) g.below
                      (of_bound bound f.first (ap (λ (m : Meaning). m.payload) f.means) under, tt);
                  held = f.held;
                  so_far =
                      subst (λ l. Written l before
                      (put_mid written (length now - written) now part) (written + n))
                      (ap (λ l. forms_of v g.xs ++ l)
                      (sym (append-nil (form_of (meant view))) ∙ form_is v g.ys f)
                      ∙ sym (forms_of_append v g.xs (f.first ∷ [])))
                      (more (forms_of v g.xs) before now written g.so_far (form_of (meant view))
                      part n placed);
                };
          }

      pub no_room : IsUnder view bound →
          Places None (form_of (meant view)) (rest_of written now) part → (v : ℕ)
          (d : List Payload) → HoldsUnits Announce v base d →
          Copies None bound v d before (put_mid written (length now - written) now part)
      no_room under placed v d h =
          let g = k.each v d h in
          let f = head Announce v view left rest g.ys next g.held in
          record {
            xs = g.xs ++ f.first ∷ [];
            ys = f.others;
            all =
                g.all ∙ ap (λ l. g.xs ++ l) f.all
                ∙ sym (append_assoc g.xs (f.first ∷ []) f.others);
            below =
                all_append (λ x. IsBelowBound x bound) g.xs (f.first ∷ []) g.below
                (of_bound bound f.first (ap (λ (m : Meaning). m.payload) f.means) under, tt);
            placed =
                subst (λ l. PlacesFront None l before
                (put_mid written (length now - written) now part))
                (ap (λ l. forms_of v g.xs ++ l) (form_is v g.ys f)
                ∙ sym (forms_of_append v g.xs (f.first ∷ [])))
                (full (forms_of v g.xs) before now written g.so_far (form_of (meant view)) part []
                placed);
          }

module _ (bound : Option PayloadView) (base rest before now : List ℕ) (written : ℕ)
    (k : Copying bound base rest before now written) where
  pub ends : NoneBelow bound rest → (v : ℕ) (d : List Payload) → HoldsUnits Announce v base d →
      (c : Copies (Some written) bound v d before now) × StartsOver bound c.ys
      × HoldsUnits Announce v rest c.ys
  ends (inl none) = ends_at_none bound base rest before now written k none
  ends (inr (view, left, next, over)) =
      ends_over bound base rest before now written k view left next over
