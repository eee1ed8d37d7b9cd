-- Data up to a name, and the name, written.
use Rattle.std.proofs.Common.{◌≡◌, ℕ, ◌+◌, ◌-◌, cond, List, [], ◌∷◌, ◌++◌, length}
use Rattle.std.proofs.Common.{Option, Some, None, refl, sym, ap, subst, ◌∙◌, append_assoc}
use Rattle.std.proofs.Common.{append-nil, inl, inr}
use Rattle.std.specs.List.{AllByRecursion}
use Rattle.std.specs.Ordering.{is_eq, is_lt}
use Rattle.std.specs.Cmp.{tied_itself}
use Rattle.std.specs.declared.cmp.Ordering.TheVariants.{Less}
use denote.Ref.{Bor}
use borrow.Rule.Slice.PartMut.{put_mid}
use Rattle.rtr_base.specs.declared.action.Action.{Action}
use Rattle.rtr_base.specs.declared.action.Action.TheVariants.{Announce, Withdraw}
use Rattle.rtr_payload.specs.Payloads.{Meaning, Payload}
use Rattle.rtr_payload.specs.Units.{form_of}
use Rattle.unit_views.specs.Placing.{Places}
use Rattle.data_memory.specs.Data.{name_cmp}
use Rattle.data_memory.specs.Sequences.{change_of}
use Rattle.data_memory.proofs.Names.{above, name_total}
use Rattle.data_slices.specs.Canonical.{PlacesFront}
use Rattle.data_slices.specs.Items.{meant}
use Rattle.data_slices.specs.PrivateChanges.{HoldsUnits}
use Rattle.data_slices.specs.PrivateMade.{Copies, IsAfterName, PlacesBelow, PlacesUpTo, PutsName}
use Rattle.data_slices.specs.PrivateMade.{StartsOver, UpToName, put, forms_of, announced_form}
use Rattle.data_slices.specs.declared.item.PayloadView.{PayloadView}
use Rattle.data_slices.proofs.Copying.{forms_of_append}
use Rattle.data_slices.proofs.Deltas.{joined, joined_none}
use Rattle.data_slices.proofs.Merging.{rest_of}
use Rattle.data_slices.proofs.Putting.{StartsAt, dropped, news, put_after, put_head}
use Rattle.data_slices.proofs.Units.{head, nothing}

told_one : (m : Meaning) (v : ℕ) (a : Action) → m.action ≡ a → m.version ≡ v →
    announced_form a m ++ [] ≡ forms_of v (news a m.payload)
told_one m v Announce e w =
    (λ i. form_of (record { version = w i; action = e i; payload = m.payload }) ++ [])
told_one m v Withdraw e w = refl

module _ (view : PayloadView) where
  abbrev m : Meaning
  m = meant view

  abbrev p : Payload
  p = m.payload

  up_to_news : (a : Action) → UpToName p (news a p)
  up_to_news Announce = (ap is_lt (tied_itself name_total p), tt)
  up_to_news Withdraw = tt

  up_to_all : (xs zs : List Payload) → AllByRecursion (λ x. name_cmp x p ≡ Less) xs →
      UpToName p zs → UpToName p (xs ++ zs)
  up_to_all [] zs h u = u
  up_to_all (x ∷ xs) zs (l, h) u = (ap is_lt (above x p l), up_to_all xs zs h u)

  as_start : (ys : List Payload) → StartsOver (Some view) ys → StartsAt p ys
  as_start [] h = tt
  as_start (y ∷ ys) h = h

  form_is : (v : ℕ) → m.version ≡ v → announced_form m.action m ≡ forms_of v (news m.action p)
  form_is v w = sym (append-nil (announced_form m.action m)) ∙ told_one m v m.action refl w

  -- what is left of the data
  left_held : (v : ℕ) (from left : List ℕ) (ys : List Payload) → HoldsUnits Announce v from ys →
      IsAfterName view left from → HoldsUnits Announce v left (dropped p ys)
  left_held v from left ys h (inl (none, is)) =
      let no : ys ≡ [] = nothing Announce v from ys none h in
      subst (λ l. HoldsUnits Announce v l (dropped p ys)) (sym is)
      (subst (HoldsUnits Announce v from) (no ∙ ap (dropped p) (sym no)) h)
  left_held v from left ys h (inr (first, rest, next, inl (same, is))) =
      let f = head Announce v first rest from ys next h in
      subst (λ l. HoldsUnits Announce v l (dropped p ys)) (sym is)
      (subst (HoldsUnits Announce v rest)
      (sym (ap (dropped p) f.all
      ∙ ap (λ b. cond b f.others (f.first ∷ f.others))
      (sym (ap (λ (n : Meaning). is_eq (name_cmp p n.payload)) f.means) ∙ same))) f.held)
  left_held v from left ys h (inr (first, rest, next, inr (other, is))) =
      let f = head Announce v first rest from ys next h in
      subst (λ l. HoldsUnits Announce v l (dropped p ys)) (sym is)
      (subst (HoldsUnits Announce v from)
      (f.all ∙ sym (ap (dropped p) f.all
      ∙ ap (λ b. cond b f.others (f.first ∷ f.others))
      (sym (ap (λ (n : Meaning). is_eq (name_cmp p n.payload)) f.means) ∙ other))) h)

  module _ (v : ℕ) (d : List Payload) (version : m.version ≡ v) (before now : List ℕ) where
    -- no room below the name
    pub none_below : Copies None (Some view) v d before now →
        PutsName None (change_of m) v d before now
    none_below k = record {
      zs = k.xs;
      ys = put (change_of m) k.ys;
      all = ap (put (change_of m)) k.all ∙ put_after m.action p k.xs k.ys k.below;
      up_to = subst (UpToName p) (append-nil k.xs) (up_to_all k.xs [] k.below tt);
      placed = k.placed;
    }

    module _ (n : ℕ) (k : Copies (Some n) (Some view) v d before now)
        (over : StartsOver (Some view) k.ys) (from : List ℕ)
        (held : HoldsUnits Announce v from k.ys) (part : List ℕ) where
      all_is : put (change_of m) d ≡ (k.xs ++ news m.action p) ++ dropped p k.ys
      all_is =
          ap (put (change_of m)) k.all ∙ put_after m.action p k.xs k.ys k.below
          ∙ ap (λ l. k.xs ++ l) (put_head m.action p k.ys held.in_order (as_start k.ys over))
          ∙ sym (append_assoc k.xs (news m.action p) (dropped p k.ys))

      pub named : (j : ℕ) → Places (Some j) (announced_form m.action m) (rest_of n now) part →
          (left : List ℕ) → IsAfterName view left from →
          (r : PutsName (Some (n + j)) (change_of m) v d before
          (put_mid n (length now - n) now part)) × HoldsUnits Announce v left r.ys
      named j placed left after = (
        record {
          zs = k.xs ++ news m.action p;
          ys = dropped p k.ys;
          all = all_is;
          up_to = up_to_all k.xs (news m.action p) k.below (up_to_news m.action);
          placed =
              subst (λ l. PlacesFront (Some (n + j)) l before (put_mid n (length now - n) now part))
              (sym (forms_of_append v k.xs (news m.action p)))
              (joined (forms_of v k.xs) (forms_of v (news m.action p)) before now part n j k.placed
              (subst (λ l. PlacesFront (Some j) l (rest_of n now) part) (form_is v version)
              placed));
        },
        left_held v from left k.ys held after,
      )

      pub no_name : Places None (announced_form m.action m) (rest_of n now) part →
          PutsName None (change_of m) v d before (put_mid n (length now - n) now part)
      no_name (less, kept) = record {
        zs = k.xs ++ news m.action p;
        ys = dropped p k.ys;
        all = all_is;
        up_to = up_to_all k.xs (news m.action p) k.below (up_to_news m.action);
        placed =
            subst (λ l. PlacesFront None l before (put_mid n (length now - n) now part))
            (sym (forms_of_append v k.xs (news m.action p)))
            (joined_none (forms_of v k.xs) (forms_of v (news m.action p)) before now part n k.placed
            (subst (λ l. PlacesFront None l (rest_of n now) part) (form_is v version)
            (less, ([], announced_form m.action m, refl, kept))));
      }

-- ---- by the bound

module _ (base before now : List ℕ) where
  pub as_up_to : (b : Option PayloadView) → PlacesBelow None b base before now →
      PlacesUpTo None b base before now
  as_up_to None h = h
  as_up_to (Some view) h = λ v d held w. none_below view v d w before now (h v d held)

  pub up_to_none : (r : Option (ℕ × Bor (List ℕ))) (b : Option PayloadView) → b ≡ None →
      PlacesBelow r b base before now → PlacesUpTo r b base before now
  up_to_none r b e h =
      subst (λ x. PlacesUpTo r x base before now) (sym e)
      (subst (λ x. PlacesBelow r x base before now) e h)

  module _ (b : Option PayloadView) (view : PayloadView) (e : b ≡ Some view) (n : ℕ)
      (from : Bor (List ℕ)) (bytes : PlacesBelow (Some (n, from)) b base before now)
      (part : List ℕ) where
    below : PlacesBelow (Some (n, from)) (Some view) base before now
    below = subst (λ x. PlacesBelow (Some (n, from)) x base before now) e bytes

    pub up_to_name : (j : ℕ) →
        Places (Some j) (announced_form (meant view).action (meant view)) (rest_of n now) part →
        (left : Bor (List ℕ)) → IsAfterName view left.now from.now →
        PlacesUpTo (Some (n + j, left)) b base before (put_mid n (length now - n) now part)
    up_to_name j placed left after =
        subst (λ x. PlacesUpTo (Some (n + j, left)) x base before
        (put_mid n (length now - n) now part)) (sym e)
        (λ v d h w.
        let (k, over, held) = below v d h in
        named view v d w before now n k over from.now held part j placed left.now after)

    pub up_to_no_name :
        Places None (announced_form (meant view).action (meant view)) (rest_of n now) part →
        PlacesUpTo None b base before (put_mid n (length now - n) now part)
    up_to_no_name placed =
        subst (λ x. PlacesUpTo None x base before (put_mid n (length now - n) now part)) (sym e)
        (λ v d h w.
        let (k, over, held) = below v d h in
        no_name view v d w before now n k over from.now held part placed)
