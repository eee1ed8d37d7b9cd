-- Going over two slices of data at once.
use Rattle.std.proofs.Common.{◌≡◌, ℕ, ◌+◌, ◌-◌, ◌≤◌, Bool, true, false, not, cond, List, [], ◌∷◌}
use Rattle.std.proofs.Common.{◌++◌, length, take, drop, map, Some, None}
use Rattle.std.proofs.Common.{refl, sym, ap, subst, ◌∙◌, append_assoc, append-nil, arith}
use Rattle.std.proofs.lemmas.List.{length-append, take-append-drop, length-drop}
use Rattle.std.proofs.lemmas.List.{drop-drop, take_all, drop_all}
use Rattle.std.proofs.Math.Seq.{drop-append_seam, take-append_seam}
use Rattle.std.specs.List.{AllByRecursion}
use Rattle.std.specs.List.Sorted.{IsStrictlySortedBy}
use Rattle.std.specs.declared.cmp.Ordering.{Ordering}
use Rattle.std.specs.declared.cmp.Ordering.TheVariants.{Less, Equal, Greater}
use borrow.Rule.Slice.PartMut.{put_mid}
use Rattle.rtr_base.specs.declared.action.Action.{Action}
use Rattle.rtr_units.specs.End.{EndMeaning}
use Rattle.rtr_units.specs.declared.end.EndOfData.{EndOfData}
use Rattle.rtr_payload.specs.FirstFault.{first_fault}
use Rattle.rtr_payload.specs.Payloads.{Payload}
use Rattle.unit_views.specs.Placing.{Places}
use Rattle.data_memory.specs.Data.{name_cmp, IsData}
use Rattle.data_memory.specs.Deltas.{change_forms}
use Rattle.data_memory.proofs.Names.{below_all}
use Rattle.data_slices.specs.Canonical.{HasData, HoldsData, PlacesFront, change, data_units}
use Rattle.data_slices.specs.Canonical.{missing}
use Rattle.data_slices.specs.Items.{IsItem, meant}
use Rattle.data_slices.specs.PrivateOrder.{IsDataItem, PlacesMissing, is_same_for}
use Rattle.data_slices.specs.PrivateOrder.{is_same_item, item_order, lacking_form, lacks}
use Rattle.data_slices.specs.declared.item.Item.{Item}
use Rattle.data_slices.specs.declared.item.Item.TheVariants as items
use Rattle.data_slices.specs.declared.item.PayloadView.{PayloadView}
use Rattle.data_slices.proofs.Differences.{at_less, at_equal, at_greater}
use Rattle.data_slices.proofs.Sequences.{First, first_unit, splits, no_fault}

-- ---- pieces, one after the other

-- the rest of a slice, as a call borrows it
abbrev pub rest_of : ℕ → List ℕ → List ℕ
rest_of n xs = take (length xs - n) (drop n xs)

pub rest_is : (n : ℕ) (xs : List ℕ) → rest_of n xs ≡ drop n xs
rest_is n xs = take_all (length xs - n) (drop n xs) (omega (arith, length-drop n xs))

pub put_is : (n : ℕ) (xs ys : List ℕ) → put_mid n (length xs - n) xs ys ≡ take n xs ++ ys
put_is n xs ys =
    ap (λ l. take n xs ++ l)
    (ap (λ l. ys ++ l) (drop_all (length xs - n) (drop n xs) (omega (arith, length-drop n xs)))
    ∙ append-nil ys)

-- so much was written, and what follows is as it was
pub record Written (piece before now : List ℕ) (written : ℕ) : Type 0 where
  pub size : written ≡ length piece
  pub fits : written ≤ length before
  pub output : now ≡ piece ++ drop written before

module _ (piece before now : List ℕ) (written : ℕ) (w : Written piece before now written) where
  kept : drop written now ≡ drop written before
  kept =
      ap (drop written) w.output
      ∙ ap (λ (n : ℕ). drop n (piece ++ drop written before)) w.size
      ∙ drop-append_seam piece (drop written before)

  front : take written now ≡ piece
  front =
      ap (take written) w.output
      ∙ ap (λ (n : ℕ). take n (piece ++ drop written before)) w.size
      ∙ take-append_seam piece (drop written before)

  abbrev put : List ℕ → List ℕ
  put part = put_mid written (length now - written) now part

  -- what a call wrote into the rest
  pub put_rest : (part : List ℕ) →
      (rest_of written now ≡ drop written before) × (put part ≡ piece ++ part)
  put_rest part =
      (rest_is written now ∙ kept, put_is written now part ∙ ap (λ l. l ++ part) front)

  pub more : (form part : List ℕ) (n : ℕ) → Places (Some n) form (rest_of written now) part →
      Written (piece ++ form) before (put part) (written + n)
  more form part n (is, le, out) =
      let rest : rest_of written now ≡ drop written before = rest_is written now ∙ kept in
      record {
        size = omega (arith, length-append piece form, w.size, is);
        fits = omega (arith, le, ap length rest, length-drop written before, w.fits);
        output =
            put_is written now part
            ∙ (λ i. front i ++ out i)
            ∙ ap (λ l. piece ++ (form ++ l))
            (ap (drop n) rest ∙ drop-drop n written before)
            ∙ sym (append_assoc piece form (drop (written + n) before));
      }

  pub full : (form part others : List ℕ) → Places None form (rest_of written now) part →
      PlacesFront None (piece ++ (form ++ others)) before (put part)
  full form part others (less, same) =
      let rest : rest_of written now ≡ drop written before = rest_is written now ∙ kept in (
        omega (
          arith,
          less,
          ap length rest,
          length-drop written before,
          w.fits,
          w.size,
          length-append piece (form ++ others),
          length-append form others,
        ),
        (
          piece,
          form ++ others,
          refl,
          put_is written now part ∙ ap (λ l. take written now ++ l) (same ∙ rest_is written now)
              ∙ take-append-drop written now ∙ w.output
              ∙ ap (λ (n : ℕ). piece ++ drop n before) w.size,
        ),
      )

pub all_of : (piece before now : List ℕ) (written : ℕ) → Written piece before now written →
    length now ≡ length before
all_of piece before now written w =
    omega (
      arith,
      ap length w.output,
      length-append piece (drop written before),
      length-drop written before,
      w.size,
      w.fits,
    )

-- ---- two slices of data

abbrev pub parts_forms : Action → ℕ → (these those : List Payload) → List ℕ
parts_forms a v ps qs = change_forms v (map (change a) (missing a ps qs))

-- how far both were gone over
pub record Merging (v : ℕ) (a : Action) (these those these_rest those_rest before now : List ℕ)
    (written : ℕ) : Type 0 where
  pub ps : List Payload
  pub qs : List Payload
  pub d : EndMeaning
  pub e : EndMeaning
  pub held : HoldsData these ps d
  pub others : HoldsData those qs e
  pub xs : List Payload
  pub ys : List Payload
  pub these_left : HoldsData these_rest xs d
  pub those_left : HoldsData those_rest ys e
  pub piece : List ℕ
  pub so_far : Written piece before now written
  pub fits : written ≤ length before
  pub room : length now ≡ length before
  pub whole : parts_forms a v ps qs ≡ piece ++ parts_forms a v xs ys

pub begins : (v : ℕ) (a : Action) (these those before : List ℕ) → HasData these → HasData those →
    Merging v a these those these those before before 0
begins v a these those before (ps, d, h) (qs, e, j) = record {
  ps = ps;
  qs = qs;
  d = d;
  e = e;
  held = h;
  others = j;
  xs = ps;
  ys = qs;
  these_left = h;
  those_left = j;
  piece = [];
  so_far = record { size = refl; fits = omega arith; output = refl };
  fits = omega arith;
  room = refl;
  whole = refl;
}

pub well : (r : List ℕ) (ps : List Payload) (e : EndMeaning) → HoldsData r ps e →
    first_fault r ≡ None
well r ps e h = no_fault r h.bytes (data_units e.version ps) e h.accepts

-- an item of data
pub data_item : (x : Item) (b r left : List ℕ) (ps : List Payload) (e : EndMeaning) → IsItem x b →
    r ≡ b ++ left → HoldsData r ps e → IsDataItem x
data_item (items.Unit v) b r left ps e is parts h =
    ((first_unit v b r left ps e is parts h).action, is.1, is.2)
data_item (items.End d) b r left ps e is parts h = tt

no_units : (v : ℕ) (ps : List Payload) → data_units v ps ≡ [] → ps ≡ []
no_units v [] e = refl
no_units v (p ∷ ps) e = absurd cc

ended : (d : EndOfData) (b r left : List ℕ) (ps : List Payload) (e : EndMeaning) →
    IsItem (items.End d) b → r ≡ b ++ left → HoldsData r ps e → ps ≡ []
ended d b r left ps e is parts h =
    no_units e.version ps (splits (items.End d) b r left h.bytes (data_units e.version ps) e is
    parts h.accepts).0

module _ (version : ℕ) (a : Action) (these those these_rest those_rest before now : List ℕ)
    (written : ℕ) (m : Merging version a these those these_rest those_rest before now written) where
  -- at the end of these
  pub finished : (d : EndOfData) (b left : List ℕ) → IsItem (items.End d) b →
      these_rest ≡ b ++ left → PlacesMissing version a (Some written) these those before now
  finished d b left is parts =
      let none : m.xs ≡ [] = ended d b these_rest left m.xs m.d is parts m.these_left in
      let all : parts_forms a version m.ps m.qs ≡ m.piece =
      m.whole ∙ ap (λ l. m.piece ++ parts_forms a version l m.ys) none
      ∙ append-nil m.piece in
      record {
        ps = m.ps;
        qs = m.qs;
        d = m.d;
        e = m.e;
        held = m.held;
        others = m.others;
        places =
            subst (λ l. PlacesFront (Some written) l before now) (sym all)
            (m.so_far.size, m.so_far.fits, m.so_far.output);
      }

  module _ (v : PayloadView) (b left : List ℕ) (is : IsItem (items.Unit v) b)
      (parts : these_rest ≡ b ++ left) where
    f : First (meant v) left m.xs m.d
    f = first_unit v b these_rest left m.xs m.d is parts m.these_left

    abbrev p : Payload
    p = (meant v).payload

    abbrev form : Bool → List ℕ
    form = lacking_form version a v

    form_is : (lack : Bool) (zs : List Payload) →
        change_forms version (map (change a) (cond lack (p ∷ zs) zs)) ≡
        form lack ++ change_forms version (map (change a) zs)
    form_is true zs = refl
    form_is false zs = refl

    module _ (x : Item) (b' left' : List ℕ) (is' : IsItem x b') (parts' : those_rest ≡ b' ++ left')
      where
        above_end : (x : Item) → IsItem x b' → Less ≡ item_order v x →
            AllByRecursion (λ q. name_cmp p q ≡ Less) m.ys
        above_end (items.Unit w) is' o =
            let g = first_unit w b' those_rest left' m.ys m.e is' parts' m.those_left in
            subst (AllByRecursion (λ q. name_cmp p q ≡ Less)) (sym g.first)
            (sym o, below_all p (meant w).payload (sym o) g.others g.above)
        above_end (items.End d) is' o =
            subst (AllByRecursion (λ q. name_cmp p q ≡ Less))
            (sym (ended d b' those_rest left' m.ys m.e is' parts' m.those_left)) tt

        data_first : IsData (p ∷ f.others)
        unfolding IsStrictlySortedBy
        data_first = (f.above, f.held.in_order)

        step_forms : (lack : Bool) (zs ws : List Payload) → zs ≡ cond lack (p ∷ ws) ws →
            change_forms version (map (change a) zs) ≡
            form lack ++ change_forms version (map (change a) ws)
        step_forms lack zs ws e =
            ap (λ l. change_forms version (map (change a) l)) e ∙ form_is lack ws

        -- what is left to be written, by the order
        record Step (lack : Bool) (rest rest' : List ℕ) : Type 0 where
          xs : List Payload
          ys : List Payload
          these_left : HoldsData rest xs m.d
          those_left : HoldsData rest' ys m.e
          forms : parts_forms a version m.xs m.ys ≡
              form lack ++ parts_forms a version xs ys

        step_less : Less ≡ item_order v x → Step true left those_rest
        step_less o = record {
          xs = f.others;
          ys = m.ys;
          these_left = f.held;
          those_left = m.those_left;
          forms =
              step_forms true (missing a m.xs m.ys) (missing a f.others m.ys)
              (ap (λ l. missing a l m.ys) f.first
              ∙ at_less a p f.others m.ys (above_end x is' o));
        }

        step_equal : (x : Item) → IsItem x b' → Equal ≡ item_order v x →
            Step (not (is_same_item a v x)) left left'
        unfolding IsStrictlySortedBy
        step_equal (items.Unit w) is' o =
            let g = first_unit w b' those_rest left' m.ys m.e is' parts' m.those_left in
            record {
              xs = f.others;
              ys = g.others;
              these_left = f.held;
              those_left = g.held;
              forms =
                  step_forms (not (is_same_for a p (meant w).payload)) (missing a m.xs m.ys)
                  (missing a f.others g.others)
                  ((λ i. missing a (f.first i) (g.first i))
                  ∙ at_equal a p (meant w).payload f.others g.others data_first
                  (g.above, g.held.in_order) (sym o));
            }
        step_equal (items.End d) is' o = absurd cc

        step_greater : (x : Item) → IsItem x b' → Greater ≡ item_order v x →
            Step false these_rest left'
        step_greater (items.Unit w) is' o =
            let g = first_unit w b' those_rest left' m.ys m.e is' parts' m.those_left in
            record {
              xs = m.xs;
              ys = g.others;
              these_left = m.these_left;
              those_left = g.held;
              forms =
                  ap (λ l. change_forms version (map (change a) l))
                  ((λ i. missing a (f.first i) (g.first i))
                  ∙ at_greater a p (meant w).payload f.others g.others data_first (sym o)
                  ∙ ap (λ l. missing a l g.others) (sym f.first));
            }
        step_greater (items.End d) is' o = absurd cc

        go : (lack : Bool) (rest rest' part : List ℕ) (n : ℕ) → Step lack rest rest' →
            Places (Some n) (form lack) (rest_of written now) part →
            Merging version a these those rest rest' before
            (put_mid written (length now - written) now part) (written + n)
        go lack rest rest' part n s placed =
            let now_so_far = more m.piece before now written m.so_far (form lack) part n placed in
            record {
              ps = m.ps;
              qs = m.qs;
              d = m.d;
              e = m.e;
              held = m.held;
              others = m.others;
              xs = s.xs;
              ys = s.ys;
              these_left = s.these_left;
              those_left = s.those_left;
              piece = m.piece ++ form lack;
              so_far = now_so_far;
              fits = now_so_far.fits;
              room = all_of (m.piece ++ form lack) before
                  (put_mid written (length now - written) now part) (written + n) now_so_far;
              whole =
                  m.whole ∙ ap (λ l. m.piece ++ l) s.forms
                  ∙ sym (append_assoc m.piece (form lack) (parts_forms a version s.xs s.ys));
            }

        stop : (lack : Bool) (rest rest' part : List ℕ) → Step lack rest rest' →
            Places None (form lack) (rest_of written now) part →
            PlacesMissing version a None these those before
            (put_mid written (length now - written) now part)
        stop lack rest rest' part s placed = record {
          ps = m.ps;
          qs = m.qs;
          d = m.d;
          e = m.e;
          held = m.held;
          others = m.others;
          places =
              subst
              (λ l. PlacesFront None l before (put_mid written (length now - written) now part))
              (sym (m.whole ∙ ap (λ l. m.piece ++ l) s.forms))
              (full m.piece before now written m.so_far (form lack) part
              (parts_forms a version s.xs s.ys) placed);
        }

        module _ (part : List ℕ) where
          abbrev form_at : Ordering → List ℕ
          form_at o = form (lacks o (is_same_item a v x))

          pub goes_less : (n : ℕ) (o : Ordering) → o ≡ item_order v x → o ≡ Less →
              Places (Some n) (form_at o) (rest_of written now) part →
              Merging version a these those left those_rest before
              (put_mid written (length now - written) now part) (written + n)
          goes_less n Less h e placed = go true left those_rest part n (step_less h) placed
          goes_less n Equal h e placed = absurd cc
          goes_less n Greater h e placed = absurd cc

          pub goes_equal : (n : ℕ) (o : Ordering) → o ≡ item_order v x → o ≡ Equal →
              Places (Some n) (form_at o) (rest_of written now) part →
              Merging version a these those left left' before
              (put_mid written (length now - written) now part) (written + n)
          goes_equal n Less h e placed = absurd cc
          goes_equal n Equal h e placed =
              go (not (is_same_item a v x)) left left' part n (step_equal x is' h) placed
          goes_equal n Greater h e placed = absurd cc

          pub goes_greater : (n : ℕ) (o : Ordering) → o ≡ item_order v x → o ≡ Greater →
              Places (Some n) (form_at o) (rest_of written now) part →
              Merging version a these those these_rest left' before
              (put_mid written (length now - written) now part) (written + n)
          goes_greater n Less h e placed = absurd cc
          goes_greater n Equal h e placed = absurd cc
          goes_greater n Greater h e placed =
              go false these_rest left' part n (step_greater x is' h) placed

          pub stops : (o : Ordering) → o ≡ item_order v x →
              Places None (form_at o) (rest_of written now) part →
              PlacesMissing version a None these those before
              (put_mid written (length now - written) now part)
          stops Less h placed = stop true left those_rest part (step_less h) placed
          stops Equal h placed =
              stop (not (is_same_item a v x)) left left' part (step_equal x is' h) placed
          stops Greater h placed = stop false these_rest left' part (step_greater x is' h) placed
