-- Going over places in the order of names.
use Rattle.data_slices.specs.AtOffsets.{HaveUnits}
use Rattle.std.proofs.Common.{◌≡◌, ◌≤◌, ℕ, ◌+◌, ◌-◌, Bool, true, false, not, ◌&&◌, cond, List, []}
use Rattle.std.proofs.Common.{◌∷◌, ◌++◌, length, filter, Option, Some, None, refl, sym, ap, subst}
use Rattle.std.proofs.Common.{◌∙◌, append_assoc, append-nil, arith}
use Rattle.std.proofs.lemmas.List.Elements.{filter-append}
use borrow.Rule.Slice.PartMut.{put_mid}
use Rattle.rtr_base.specs.declared.action.Action.{Action}
use Rattle.rtr_payload.specs.Units.{form_of}
use Rattle.unit_views.specs.Placing.{Places}
use Rattle.data_memory.specs.Data.{Change}
use Rattle.data_memory.specs.Deltas.{change_forms, unit_of}
use Rattle.data_memory.specs.Sequences.{change_of}
use Rattle.data_slices.specs.Canonical.{PlacesFront}
use Rattle.data_slices.specs.Items.{meant}
use Rattle.data_slices.specs.Net.{settles}
use Rattle.data_slices.specs.PrivateOffsets.{FindsWrong, HaveSome, PlacesNets}
use Rattle.data_slices.specs.PrivateOffsets.{Views, between, ended, first_after, is_action}
use Rattle.data_slices.specs.PrivateOffsets.{last_form, nets, nets_from, open_at, or_else}
use Rattle.data_slices.specs.PrivateOffsets.{same_name}
use Rattle.data_slices.specs.PrivateOffsets.{settled, with_action, first_wrong, wrong_from}
use Rattle.data_slices.specs.declared.item.PayloadView.{PayloadView}
use Rattle.data_slices.specs.declared.order_fault.OrderFault.{OrderFault}
use Rattle.data_slices.proofs.Deltas.{forms_append}
use Rattle.data_slices.proofs.Merging.{Written, all_of, full, more, rest_of}
use Rattle.data_slices.proofs.UnitsAt.{has_unit, one_unit}

-- the first of the changes
pub record Taken (input : List ℕ) (view : PayloadView) (os : List ℕ) (v : ℕ)
    (cs : List Change) : Type 0 where
  pub c : Change
  pub ds : List Change
  pub parts : cs ≡ c ∷ ds
  pub is : change_of (meant view) ≡ c
  pub means : meant view ≡ unit_of v c
  pub left : HaveUnits input v os ds

taken_at : (input : List ℕ) (o : ℕ) (view : PayloadView) (os : List ℕ) (v : ℕ)
    (cs : List Change) → Views input o view → HaveUnits input v (o ∷ os) cs →
    Taken input view os v cs
taken_at input o view os v [] w h = absurd h
taken_at input o view os v (c ∷ ds) w (h, more) =
    let means : meant view ≡ unit_of v c =
    one_unit input o (meant view) (unit_of v c) (has_unit input o view w) h in
    record {
      c = c;
      ds = ds;
      parts = refl;
      is = ap change_of means;
      means = means;
      left = more;
    }

pub taken : (input places : List ℕ) (o : ℕ) (view : PayloadView) (os : List ℕ) (v : ℕ)
    (cs : List Change) → places ≡ o ∷ os → Views input o view → HaveUnits input v places cs →
    Taken input view os v cs
taken input places o view os v cs parts w h =
    taken_at input o view os v cs w (subst (λ l. HaveUnits input v l cs) parts h)

pub some_left : (input places : List ℕ) (o : ℕ) (view : PayloadView) (os : List ℕ) →
    places ≡ o ∷ os → Views input o view → HaveSome input places → HaveSome input os
some_left input places o view os parts w (v, cs, h) =
    let t = taken input places o view os v cs parts w h in
    (v, t.ds, t.left)

pub none_left : (input : List ℕ) (v : ℕ) (ds : List Change) → HaveUnits input v [] ds → ds ≡ []
none_left input v [] h = refl
none_left input v (d ∷ ds) h = absurd h

-- ---- what is refused

-- the refusals left are those of the whole
pub record RefusalsLeft (places : List ℕ) (input : List ℕ) (place : ℕ) (view : PayloadView)
    (rest : List ℕ) (first : Action) (v : ℕ) (cs : List Change) : Type 0 where
  pub c : Change
  pub ds : List Change
  pub is : change_of (meant view) ≡ c
  pub left : HaveUnits input v rest ds
  pub whole : first_wrong places cs ≡ wrong_from first place c rest ds

pub record Refusing (input places : List ℕ) (place : ℕ) (view : PayloadView) (rest : List ℕ)
    (first : Action) : Type 0 where
  pub some : HaveSome input rest
  pub each : (v : ℕ) (cs : List Change) → HaveUnits input v places cs →
      RefusalsLeft places input place view rest first v cs

pub refusing : (input places : List ℕ) (o : ℕ) (view : PayloadView) (os : List ℕ) →
    HaveSome input places → (places ≡ o ∷ os) × Views input o view →
    Refusing input places o view os (meant view).action
refusing input places o view os some (parts, w) = record {
  some = some_left input places o view os parts w some;
  each = λ v cs h.
      let t = taken input places o view os v cs parts w h in
      record {
        c = t.c;
        ds = t.ds;
        is = t.is;
        left = t.left;
        whole =
            (λ i. first_wrong (parts i) (t.parts i))
            ∙ ap (λ (x : Change). wrong_from x.action o t.c os t.ds) (sym t.is);
      };
}

pub nothing_wrong : (input places : List ℕ) → places ≡ [] → FindsWrong None input places
nothing_wrong input places none v cs h = sym (ap (λ l. first_wrong l cs) none)

module _ (input places : List ℕ) (place : ℕ) (view : PayloadView) (rest : List ℕ)
    (first : Action) (r : Refusing input places place view rest first) where
  pub last_wrong : (f : Option OrderFault) → rest ≡ [] →
      f ≡ open_at first place (change_of (meant view)) → FindsWrong f input places
  last_wrong f none is v cs h =
      let s = r.each v cs h in
      is ∙ ap (open_at first place) s.is
      ∙ sym (s.whole ∙ ap (λ l. wrong_from first place s.c l s.ds) none)

  module _ (next : ℕ) (later : PayloadView) (left : List ℕ)
      (takes : (rest ≡ next ∷ left) × Views input next later) (same : Bool)
      (compared : same ≡ same_name (change_of (meant view)) (change_of (meant later)))
      (f : Option OrderFault)
      (found : f ≡ between same first place (change_of (meant view)) next
      (change_of (meant later))) where
    -- by the next change
    stepped : (v : ℕ) (cs : List Change) (h : HaveUnits input v places cs) →
        (s : RefusalsLeft places input place view rest first v cs) →
        (t : Taken input later left v s.ds) →
        first_wrong places cs ≡
        or_else f (wrong_from (first_after same first t.c) next t.c left t.ds)
    stepped v cs h s t =
        let same_is : same_name s.c t.c ≡ same =
        sym (compared ∙ (λ i. same_name (s.is i) (t.is i))) in
        s.whole ∙ (λ i. wrong_from first place s.c (takes.0 i) (t.parts i))
        ∙ ap (λ b. or_else (between b first place s.c next t.c)
        (wrong_from (first_after b first t.c) next t.c left t.ds)) same_is
        ∙ ap (λ x. or_else x (wrong_from (first_after same first t.c) next t.c left t.ds))
        (sym (found ∙ (λ i. between same first place (s.is i) next (t.is i))))

    pub goes_on : f ≡ None →
        Refusing input places next later left (first_after same first (change_of (meant later)))
    goes_on none = record {
      some = some_left input rest next later left takes.0 takes.1 r.some;
      each = λ v cs h.
          let s = r.each v cs h in
          let t = taken input rest next later left v s.ds takes.0 takes.1 s.left in
          record {
            c = t.c;
            ds = t.ds;
            is = t.is;
            left = t.left;
            whole =
                stepped v cs h s t
                ∙ ap (λ x. or_else x (wrong_from (first_after same first t.c) next t.c left t.ds))
                none
                ∙ ap (λ x. wrong_from (first_after same first x) next t.c left t.ds) (sym t.is);
          };
    }

    pub stops_there : (x : OrderFault) → f ≡ Some x → FindsWrong (Some x) input places
    stops_there x is v cs h =
        let s = r.each v cs h in
        let t = taken input rest next later left v s.ds takes.0 takes.1 s.left in
        sym (stepped v cs h s t
        ∙ ap (λ y. or_else y (wrong_from (first_after same first t.c) next t.c left t.ds)) is)

-- ---- what is written

form_kept : (a first : Action) (v : ℕ) (c : Change) (ends s b : Bool) →
    change_forms v (filter (λ x. is_action a x.action) (cond ends (cond s (c ∷ []) []) [])) ≡
    cond (ends && (is_action a c.action && s)) (form_of (unit_of v c)) []
form_kept a first v c false s b = refl
form_kept a first v c true false b =
    elim (is_action a c.action) as
    (λ (x : Bool). ◌≡◌ {A = List ℕ} [] (cond (x && false) (form_of (unit_of v c)) [])) [
      | true ↦ refl
      | false ↦ refl
    ]
form_kept a first v c true true b =
    elim (is_action a c.action) as
    (λ (x : Bool). change_forms v (cond x (c ∷ []) []) ≡
    cond (x && true) (form_of (unit_of v c)) []) [
      | true ↦ append-nil (form_of (unit_of v c))
      | false ↦ refl
    ]

ended_as : (same : Bool) (first : Action) (c : Change) →
    ended same first c ≡ cond (not same) (settled first c) []
ended_as true first c = refl
ended_as false first c = refl

-- the form of a change that is the last of its name
last_is : (a first : Action) (v : ℕ) (c : Change) (ends : Bool) →
    change_forms v (with_action a (cond ends (settled first c) [])) ≡
    last_form ends a first (unit_of v c)
last_is a first v c ends =
    form_kept a first v c ends (settles first c.action c.payload) true

forms_step : (a first : Action) (v : ℕ) (c : Change) (same : Bool) (ns : List Change) →
    change_forms v (with_action a (ended same first c ++ ns)) ≡
    last_form (not same) a first (unit_of v c) ++ change_forms v (with_action a ns)
forms_step a first v c same ns =
    ap (change_forms v) (filter-append (λ x. is_action a x.action) (ended same first c) ns)
    ∙ forms_append v (with_action a (ended same first c)) (with_action a ns)
    ∙ ap (λ l. change_forms v (with_action a l) ++ change_forms v (with_action a ns))
    (ended_as same first c)
    ∙ ap (λ l. l ++ change_forms v (with_action a ns)) (last_is a first v c (not same))

pub record NetsLeft (a : Action) (input : List ℕ) (view : PayloadView) (rest : List ℕ)
    (first : Action) (before now : List ℕ) (written : ℕ) (v : ℕ) (cs : List Change) : Type 0 where
  pub c : Change
  pub ds : List Change
  pub is : change_of (meant view) ≡ c
  pub means : meant view ≡ unit_of v c
  pub left : HaveUnits input v rest ds
  pub piece : List ℕ
  pub so_far : Written piece before now written
  pub whole : change_forms v (with_action a (nets cs)) ≡
      piece ++ change_forms v (with_action a (nets_from first c ds))

pub record Settling (a : Action) (input places : List ℕ) (view : PayloadView) (rest : List ℕ)
    (first : Action) (before now : List ℕ) (written : ℕ) : Type 0 where
  pub all : HaveSome input places
  pub some : HaveSome input rest
  pub fits : written ≤ length before
  pub room : length now ≡ length before
  pub each : (v : ℕ) (cs : List Change) → HaveUnits input v places cs →
      NetsLeft a input view rest first before now written v cs

pub settling : (a : Action) (input places : List ℕ) (o : ℕ) (view : PayloadView) (os : List ℕ)
    (before : List ℕ) → HaveSome input places → (places ≡ o ∷ os) × Views input o view →
    Settling a input places view os (meant view).action before before 0
settling a input places o view os before some (parts, w) = record {
  all = some;
  some = some_left input places o view os parts w some;
  fits = omega arith;
  room = refl;
  each = λ v cs h.
      let t = taken input places o view os v cs parts w h in
      record {
        c = t.c;
        ds = t.ds;
        is = t.is;
        means = t.means;
        left = t.left;
        piece = [];
        so_far = record { size = refl; fits = omega arith; output = refl };
        whole =
            ap (λ l. change_forms v (with_action a (nets l))) t.parts
            ∙ ap (λ (x : Change).
            change_forms v (with_action a (nets_from x.action t.c t.ds))) (sym t.is);
      };
}

pub no_places : (a : Action) (input places before : List ℕ) → places ≡ [] →
    PlacesNets a (Some 0) input places before before
no_places a input places before none v cs h =
    let no : cs ≡ [] = none_left input v cs (subst (λ l. HaveUnits input v l cs) none h) in
    subst (λ l. PlacesFront (Some 0) (change_forms v (with_action a (nets l))) before before)
    (sym no) (refl, omega arith, refl)

module _ (a : Action) (input places : List ℕ) (view : PayloadView) (rest : List ℕ)
    (first : Action) (before now : List ℕ) (written : ℕ)
    (r : Settling a input places view rest first before now written) where
  abbrev put : List ℕ → List ℕ
  put part = put_mid written (length now - written) now part

  -- the last place
  module _ (none : rest ≡ []) (part : List ℕ) where
    all_left : (v : ℕ) (cs : List Change) (h : HaveUnits input v places cs) →
        (s : NetsLeft a input view rest first before now written v cs) →
        change_forms v (with_action a (nets cs)) ≡
        s.piece ++ last_form true a first (meant view)
    all_left v cs h s =
        let no : s.ds ≡ [] =
        none_left input v s.ds (subst (λ l. HaveUnits input v l s.ds) none s.left) in
        s.whole
        ∙ ap (λ l. s.piece ++ change_forms v (with_action a (nets_from first s.c l))) no
        ∙ ap (λ l. s.piece ++ l) (last_is a first v s.c true)
        ∙ ap (λ m. s.piece ++ last_form true a first m) (sym s.means)

    pub all_placed : (n : ℕ) →
        Places (Some n) (last_form true a first (meant view)) (rest_of written now) part →
        PlacesNets a (Some (written + n)) input places before (put part)
    all_placed n placed v cs h =
        let s = r.each v cs h in
        let w = more s.piece before now written s.so_far
        (last_form true a first (meant view)) part n
        placed in
        subst (λ l. PlacesFront (Some (written + n)) l before (put part)) (sym (all_left v cs h s))
        (w.size, w.fits, w.output)

    pub last_full : Places None (last_form true a first (meant view)) (rest_of written now) part →
        PlacesNets a None input places before (put part)
    last_full placed v cs h =
        let s = r.each v cs h in
        subst (λ l. PlacesFront None l before (put part))
        (sym (all_left v cs h s
        ∙ ap (λ l. s.piece ++ l) (sym (append-nil (last_form true a first (meant view))))))
        (full s.piece before now written s.so_far (last_form true a first (meant view)) part []
        placed)

  -- another place
  module _ (next : ℕ) (later : PayloadView) (left : List ℕ)
      (takes : (rest ≡ next ∷ left) × Views input next later) (same : Bool)
      (compared : same ≡ same_name (change_of (meant view)) (change_of (meant later)))
      (part : List ℕ) where
    next_left : (v : ℕ) (cs : List Change) (h : HaveUnits input v places cs) →
        (s : NetsLeft a input view rest first before now written v cs) →
        (t : Taken input later left v s.ds) →
        change_forms v (with_action a (nets cs)) ≡
        s.piece ++ (last_form (not same) a first (meant view) ++
        change_forms v (with_action a (nets_from (first_after same first t.c) t.c t.ds)))
    next_left v cs h s t =
        let same_is : same_name s.c t.c ≡ same =
        sym (compared ∙ (λ i. same_name (s.is i) (t.is i))) in
        s.whole
        ∙ ap (λ l. s.piece ++ change_forms v (with_action a (nets_from first s.c l))) t.parts
        ∙ ap (λ b. s.piece ++ change_forms v (with_action a
        (ended b first s.c ++ nets_from (first_after b first t.c) t.c t.ds))) same_is
        ∙ ap (λ l. s.piece ++ l)
        (forms_step a first v s.c same (nets_from (first_after same first t.c) t.c t.ds))
        ∙ ap (λ m. s.piece ++ (last_form (not same) a first m ++
        change_forms v (with_action a (nets_from (first_after same first t.c) t.c t.ds))))
        (sym s.means)

    next_each : (n : ℕ) →
        Places (Some n) (last_form (not same) a first (meant view)) (rest_of written now) part →
        (v : ℕ) (cs : List Change) → HaveUnits input v places cs →
        NetsLeft a input later left (first_after same first (change_of (meant later))) before
        (put part) (written + n) v cs
    next_each n placed v cs h =
        let s = r.each v cs h in
        let t = taken input rest next later left v s.ds takes.0 takes.1 s.left in
        let form = last_form (not same) a first (meant view) in
        record {
          c = t.c;
          ds = t.ds;
          is = t.is;
          means = t.means;
          left = t.left;
          piece = s.piece ++ form;
          so_far = more s.piece before now written s.so_far form part n placed;
          whole =
              next_left v cs h s t
              ∙ ap (λ (x : Change). s.piece ++ (form ++ change_forms v (with_action a
              (nets_from (first_after same first x) t.c t.ds)))) (sym t.is)
              ∙ sym (append_assoc s.piece form (change_forms v (with_action a
              (nets_from (first_after same first (change_of (meant later))) t.c t.ds))));
        }

    pub next_placed : (n : ℕ) →
        Places (Some n) (last_form (not same) a first (meant view)) (rest_of written now) part →
        Settling a input places later left (first_after same first (change_of (meant later)))
        before (put part) (written + n)
    next_placed n placed =
        let (v, cs, h) = r.all in
        let w = (next_each n placed v cs h).so_far in
        record {
          all = r.all;
          some = some_left input rest next later left takes.0 takes.1 r.some;
          fits = w.fits;
          room = all_of (next_each n placed v cs h).piece before (put part) (written + n) w;
          each = next_each n placed;
        }

    pub next_full :
        Places None (last_form (not same) a first (meant view)) (rest_of written now) part →
        PlacesNets a None input places before (put part)
    next_full placed v cs h =
        let s = r.each v cs h in
        let t = taken input rest next later left v s.ds takes.0 takes.1 s.left in
        subst (λ l. PlacesFront None l before (put part)) (sym (next_left v cs h s t))
        (full s.piece before now written s.so_far (last_form (not same) a first (meant view)) part
        (change_forms v (with_action a (nets_from (first_after same first t.c) t.c t.ds))) placed)
