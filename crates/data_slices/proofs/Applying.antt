-- Going over data and changes at once, and writing what the changes make of the data.
use Rattle.std.proofs.Common.{◌≡◌, ℕ, Bool, ◌+◌, ◌-◌, ◌≤◌, true, false, List, [], ◌∷◌, ◌++◌}
use Rattle.std.proofs.Common.{length, drop, map, Option, Some, None, refl, sym, ap, subst, ◌∙◌}
use Rattle.std.proofs.Common.{append_assoc, append-nil, arith, inl, inr}
use Rattle.std.proofs.lemmas.List.{length-append, length-drop, take-append-drop}
use Rattle.std.specs.Prelude.{take}
use Rattle.std.proofs.lemmas.Bool.{true≢false}
use Rattle.std.specs.List.{AllByRecursion}
use Rattle.std.specs.declared.cmp.Ordering.TheVariants.{Equal}
use borrow.Rule.Slice.PartMut.{put_mid}
use Rattle.rtr_base.specs.declared.action.Action.TheVariants.{Announce, Withdraw}
use Rattle.rtr_payload.specs.Payloads.{Meaning, Payload}
use Rattle.rtr_payload.specs.Units.{form_of}
use Rattle.unit_views.specs.Placing.{Places}
use Rattle.data_memory.specs.Data.{IsData, announcement, has_name, name_cmp}
use Rattle.data_memory.specs.Deltas.{change_forms, unit_of}
use Rattle.data_slices.specs.Canonical.{PlacesFront}
use Rattle.data_slices.specs.Items.{meant}
use Rattle.data_slices.specs.PrivateChanges.{HoldsUnits, IsAfterWithdrawal, IsBound, IsFirst}
use Rattle.data_slices.specs.PrivateChanges.{LeastOf, MakesNew, NothingLeft, PlacesApplied}
use Rattle.data_slices.specs.declared.item.PayloadView.{PayloadView}
use Rattle.data_slices.proofs.Making.{Follows, StartsElsewhere, or_parts, step_added, step_end}
use Rattle.data_slices.proofs.Making.{step_gone, step_kept}
use Rattle.data_slices.proofs.Merging.{Written, full, more, put_is, rest_is, rest_of}
use Rattle.data_slices.proofs.Sequences.{announced_form}
use Rattle.data_slices.proofs.Units.{head, nothing, right_name}

abbrev pub IsApart : (ps qs : List Payload) → Type 0
IsApart ps qs = AllByRecursion (λ q. has_name ps q ≡ false) qs

abbrev pub announced_forms : ℕ → List Payload → List ℕ
announced_forms v d = change_forms v (map announcement d)

-- how far all three were gone over
pub record Placing (v : ℕ) (made : List Payload) (old new gone before now : List ℕ)
    (written : ℕ) : Type 0 where
  pub d : List Payload
  pub ps : List Payload
  pub qs : List Payload
  pub rest : List Payload
  pub olds : HoldsUnits Announce v old d
  pub news : HoldsUnits Announce v new ps
  pub gones : HoldsUnits Withdraw v gone qs
  pub apart : IsApart ps qs
  pub makes : MakesNew d ps qs rest
  pub piece : List ℕ
  pub so_far : Written piece before now written
  pub whole : announced_forms v made ≡ piece ++ announced_forms v rest

pub record Along (old announced withdrawn old_rest new_rest gone_rest before now : List ℕ)
    (written : ℕ) (bound : Option PayloadView) : Type 0 where
  pub bounds : IsBound bound new_rest gone_rest
  pub fits : written ≤ length before
  pub room : length now ≡ length before
  pub placing : (v : ℕ) (d ps qs d' : List Payload) → HoldsUnits Announce v old d →
      HoldsUnits Announce v announced ps → HoldsUnits Withdraw v withdrawn qs → IsApart ps qs →
      MakesNew d ps qs d' → Placing v d' old_rest new_rest gone_rest before now written

pub begins : (old announced withdrawn before : List ℕ) (bound : Option PayloadView) →
    IsBound bound announced withdrawn →
    Along old announced withdrawn old announced withdrawn before before 0 bound
begins old announced withdrawn before bound bounds = record {
  bounds = bounds;
  fits = omega arith;
  room = refl;
  placing = λ v d ps qs d' h j k apart makes. record {
    d = d;
    ps = ps;
    qs = qs;
    rest = d';
    olds = h;
    news = j;
    gones = k;
    apart = apart;
    makes = makes;
    piece = [];
    so_far = record { size = refl; fits = omega arith; output = refl };
    whole = refl;
  };
}

fewer_names : (p : Payload) (ps qs : List Payload) → IsApart (p ∷ ps) qs → IsApart ps qs
fewer_names p ps [] h = tt
fewer_names p ps (q ∷ qs) (g, h) = ((or_parts _ _ g).1, fewer_names p ps qs h)

-- ---- one step

module _ (v : ℕ) (made : List Payload) (old new gone before now : List ℕ) (written : ℕ)
    (g : Placing v made old new gone before now written) where
  -- nothing is left
  pub all_placed : NothingLeft old new →
      PlacesFront (Some written) (announced_forms v made) before now
  all_placed (none, none') =
      let no_d : g.d ≡ [] = nothing Announce v old g.d none g.olds in
      let no_ps : g.ps ≡ [] = nothing Announce v new g.ps none' g.news in
      let end : g.rest ≡ [] =
      step_end g.qs g.rest (subst (λ l. MakesNew l [] g.qs g.rest) no_d
      (subst (λ l. MakesNew g.d l g.qs g.rest) no_ps g.makes)) in
      let is : announced_forms v made ≡ g.piece =
      g.whole ∙ ap (λ l. g.piece ++ announced_forms v l) end ∙ append-nil g.piece in
      subst (λ l. PlacesFront (Some written) l before now) (sym is)
      (g.so_far.size, g.so_far.fits, g.so_far.output)

  module _ (view : PayloadView) (is_old : Bool) (old' new' : List ℕ)
      (least : LeastOf view is_old old' new' old new) where
    abbrev p : Payload
    p = (meant view).payload

    -- the next of the data is withdrawn
    pub goes_gone : (gone' : List ℕ) → IsAfterWithdrawal (Some gone') view is_old gone →
        Placing v made old' new' gone' before now written
    goes_gone gone' (true_is, (first, next, e)) =
        let (d', ps', olds, news, means, is) = least v g.d g.ps g.olds g.news in
        let (at, same, under) = subst (λ b. IsFirst p b g.d d' g.ps ps') true_is is in
        let w = head Withdraw v first gone' gone g.qs next g.gones in
        let named : name_cmp p w.first ≡ Equal =
        sym (right_name Withdraw w.first p)
        ∙ ap (λ (m : Meaning). name_cmp p m.payload) (sym w.means) ∙ e in
        record {
          d = d';
          ps = g.ps;
          qs = w.others;
          rest = g.rest;
          olds = olds;
          news = subst (HoldsUnits Announce v new') (sym same) news;
          gones = w.held;
          apart = (subst (IsApart g.ps) w.all g.apart).1;
          makes =
              step_gone p w.first d' g.ps w.others g.rest under named
              (subst (λ l. MakesNew (p ∷ d') g.ps l g.rest) w.all
              (subst (λ l. MakesNew l g.ps g.qs g.rest) at g.makes));
          piece = g.piece;
          so_far = g.so_far;
          whole = g.whole;
        }

    -- the next unit stays, or is announced
    pub record Next : Type 0 where
      pub d' : List Payload
      pub ps' : List Payload
      pub olds : HoldsUnits Announce v old' d'
      pub news : HoldsUnits Announce v new' ps'
      pub means : meant view ≡ unit_of v (announcement p)
      pub apart : IsApart ps' g.qs
      pub follows : Follows p d' ps' g.qs g.rest

    elsewhere : (qs : List Payload) → HoldsUnits Withdraw v gone qs → is_old ≡ true →
        IsAfterWithdrawal None view is_old gone → StartsElsewhere p qs
    elsewhere [] h true_is other = tt
    elsewhere (q ∷ qs) h true_is (inl false_is) = absurd (true≢false (sym true_is ∙ false_is))
    elsewhere (q ∷ qs) h true_is (inr (inl none)) =
        let no = nothing Withdraw v gone (q ∷ qs) none h in absurd cc
    elsewhere (q ∷ qs) h true_is (inr (inr (first, left, next, not))) = λ e.
        let w = head Withdraw v first left gone (q ∷ qs) next h in
        let same : q ≡ w.first = first_same w.all in
        not (ap (λ (m : Meaning). name_cmp p m.payload) w.means
        ∙ right_name Withdraw w.first p ∙ ap (name_cmp p) (sym same) ∙ e)
      where
        first_same : {x : Payload} {xs : List Payload} → q ∷ qs ≡ x ∷ xs → q ≡ x
        first_same e = cc

    pub kept : is_old ≡ true → IsAfterWithdrawal None view is_old gone → Next
    kept true_is other =
        let (d', ps', olds, news, means, is) = least v g.d g.ps g.olds g.news in
        let (at, same, under) = subst (λ b. IsFirst p b g.d d' g.ps ps') true_is is in
        record {
          d' = d';
          ps' = g.ps;
          olds = olds;
          news = subst (HoldsUnits Announce v new') (sym same) news;
          means = means;
          apart = g.apart;
          follows =
              step_kept p d' g.ps g.qs g.rest (subst IsData at g.olds.in_order) under
              g.gones.in_order (elsewhere g.qs g.gones true_is other)
              (subst (λ l. MakesNew l g.ps g.qs g.rest) at g.makes);
        }

    pub added : is_old ≡ false → Next
    added false_is =
        let (d', ps', olds, news, means, is) = least v g.d g.ps g.olds g.news in
        let (at, over) = subst (λ b. IsFirst p b g.d d' g.ps ps') false_is is in
        let apart : IsApart (p ∷ ps') g.qs = subst (λ l. IsApart l g.qs) at g.apart in
        record {
          d' = d';
          ps' = ps';
          olds = olds;
          news = news;
          means = means;
          apart = fewer_names p ps' g.qs apart;
          follows =
              step_added p g.d d' ps' g.qs g.rest g.olds.in_order over
              (subst IsData at g.news.in_order) g.gones.in_order apart
              (subst (λ l. MakesNew g.d l g.qs g.rest) at g.makes);
        }

    module _ (next : Next) (part : List ℕ) where
      form_is : form_of (meant view) ≡ form_of (unit_of v (announcement p))
      form_is =
          announced_form view (ap (λ (m : Meaning). m.action) next.means)
          ∙ ap (λ (m : Meaning). form_of (unit_of m.version (announcement p))) next.means

      forms_are : announced_forms v g.rest ≡
          form_of (meant view) ++ announced_forms v next.follows.others
      forms_are =
          ap (announced_forms v) next.follows.first
          ∙ ap (λ l. l ++ announced_forms v next.follows.others) (sym form_is)

      pub goes_on : (n : ℕ) →
          Places (Some n) (form_of (meant view)) (rest_of written now) part →
          Placing v made old' new' gone before
          (put_mid written (length now - written) now part) (written + n)
      goes_on n placed = record {
        d = next.d';
        ps = next.ps';
        qs = g.qs;
        rest = next.follows.others;
        olds = next.olds;
        news = next.news;
        gones = g.gones;
        apart = next.apart;
        makes = next.follows.makes;
        piece = g.piece ++ form_of (meant view);
        so_far = more g.piece before now written g.so_far (form_of (meant view)) part n placed;
        whole =
            g.whole ∙ ap (λ l. g.piece ++ l) forms_are
            ∙ sym (append_assoc g.piece (form_of (meant view))
            (announced_forms v next.follows.others));
      }

      pub no_room : Places None (form_of (meant view)) (rest_of written now) part →
          PlacesFront None (announced_forms v made) before
          (put_mid written (length now - written) now part)
      no_room placed =
          subst (λ l. PlacesFront None l before (put_mid written (length now - written) now part))
          (sym (g.whole ∙ ap (λ l. g.piece ++ l) forms_are))
          (full g.piece before now written g.so_far (form_of (meant view)) part
          (announced_forms v next.follows.others) placed)

-- ---- the loop

module _ (old announced withdrawn old_rest new_rest gone_rest before now : List ℕ) (written : ℕ)
    (bound : Option PayloadView)
    (a : Along old announced withdrawn old_rest new_rest gone_rest before now written bound) where
  pub ended : NothingLeft old_rest new_rest →
      PlacesApplied (Some written) old announced withdrawn before now
  ended none v d ps qs d' h j k apart makes =
      all_placed v d' old_rest new_rest gone_rest before now written
      (a.placing v d ps qs d' h j k apart makes) none

  module _ (view : PayloadView) (is_old : Bool) (old' new' : List ℕ)
      (least : LeastOf view is_old old' new' old_rest new_rest) where
    pub passes : (gone' : List ℕ) → IsAfterWithdrawal (Some gone') view is_old gone_rest →
        (bound' : Option PayloadView) → IsBound bound' new' gone' →
        Along old announced withdrawn old' new' gone' before now written bound'
    passes gone' after bound' bounds = record {
      bounds = bounds;
      fits = a.fits;
      room = a.room;
      placing = λ v d ps qs d' h j k apart makes.
          goes_gone v d' old_rest new_rest gone_rest before now written
          (a.placing v d ps qs d' h j k apart makes) view is_old old' new' least gone' after;
    }

    -- the unit isn't withdrawn
    module _ (stays : IsAfterWithdrawal None view is_old gone_rest) (part : List ℕ) where
      next : (v : ℕ) (made : List Payload)
          (g : Placing v made old_rest new_rest gone_rest before now written) →
          Next v made old_rest new_rest gone_rest before now written g view is_old old' new' least
      next v made g = by_kind is_old refl
        where
          by_kind : (b : Bool) → is_old ≡ b →
              Next v made old_rest new_rest gone_rest before now written g view is_old old' new'
              least
          by_kind true e =
              kept v made old_rest new_rest gone_rest before now written g view is_old old' new'
              least e stays
          by_kind false e =
              added v made old_rest new_rest gone_rest before now written g view is_old old' new'
              least e

      pub writes : (bound' : Option PayloadView) → IsBound bound' new' gone_rest → (n : ℕ) →
          Places (Some n) (form_of (meant view)) (rest_of written now) part →
          Along old announced withdrawn old' new' gone_rest before
          (put_mid written (length now - written) now part) (written + n) bound'
      writes bound' bounds n (is, le, out) = record {
        bounds = bounds;
        fits =
            omega (
              arith,
              le,
              ap length (rest_is written now),
              length-drop written now,
              a.fits,
              a.room,
            );
        room =
            omega (
              arith,
              ap length (put_is written now part),
              length-append (take written now) part,
              ap length (take-append-drop written now),
              length-append (take written now) (drop written now),
              ap length out,
              length-append (form_of (meant view)) (drop n (rest_of written now)),
              length-drop n (rest_of written now),
              ap length (rest_is written now),
              is,
              le,
              a.room,
            );
        placing = λ v d ps qs d' h j k apart makes.
            let g = a.placing v d ps qs d' h j k apart makes in
            goes_on v d' old_rest new_rest gone_rest before now written g view is_old old' new'
            least (next v d' g) part n (is, le, out);
      }

      pub stops : Places None (form_of (meant view)) (rest_of written now) part →
          PlacesApplied None old announced withdrawn before
          (put_mid written (length now - written) now part)
      stops placed v d ps qs d' h j k apart makes =
          let g = a.placing v d ps qs d' h j k apart makes in
          no_room v d' old_rest new_rest gone_rest before now written g view is_old old' new' least
          (next v d' g) part placed
