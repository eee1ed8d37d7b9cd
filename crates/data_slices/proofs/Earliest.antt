-- Changes in the order of names: the one with the least place that data don't allow.
use Rattle.data_slices.specs.AtOffsets.{Up}
use Rattle.std.proofs.Common.{◌≡◌, ◌≤◌, ◌<◌, ℕ, Bool, true, false, cond, List, [], ◌∷◌, nat_lt}
use Rattle.std.proofs.Common.{Option, Some, None, refl, sym, ap, subst, ◌∙◌, arith}
use Rattle.std.proofs.Common.{◌⊎◌, inl, inr}
use Rattle.std.proofs.lemmas.Bool.Decides.{nat_tests}
use Rattle.std.specs.List.{AllByRecursion}
use Rattle.std.specs.Ordering.{is_eq, is_lt}
use Rattle.std.specs.declared.cmp.Ordering.TheVariants.{Less}
use Rattle.rtr_base.specs.declared.action.Action.{Action}
use Rattle.rtr_base.specs.declared.action.Action.TheVariants.{Announce}
use Rattle.rtr_payload.specs.Payloads.{Payload}
use Rattle.data_memory.specs.Data.{Change, has_name, name_cmp}
use Rattle.data_memory.proofs.Merge.{laws, same_names}
use Rattle.data_slices.specs.PrivateInOrder.{disallowed, earlier_of, earliest, fits, there_before}
use Rattle.data_slices.specs.PrivateOffsets.{is_action, same_name}
use Rattle.data_slices.proofs.InTurn.{bad_over, first_bad, of_pair}
use Rattle.data_slices.proofs.NetOrdered.{over, rises}
use Rattle.data_slices.proofs.Walking.{own_name}

-- the first isn't above the second, where there is one
abbrev pub NotAbove : Option (ℕ × Action) → Option (ℕ × Action) → Type 0
NotAbove e None = Unit {0}
NotAbove None (Some y) = ⊥
NotAbove (Some x) (Some y) = x.0 ≤ y.0

itself : (r : Option (ℕ × Action)) → NotAbove r r
itself None = tt
itself (Some x) = omega arith

below_both : (e r f : Option (ℕ × Action)) → NotAbove e (earlier_of r f) →
    NotAbove e r × NotAbove e f
below_both e None f h = (tt, h)
below_both e (Some x) None h = (h, tt)
below_both None (Some x) (Some y) h = by_test (nat_lt y.0 x.0) h
  where
    by_test : (b : Bool) → NotAbove None (cond b (Some y) (Some x)) → ⊥ × ⊥
    by_test true h = absurd h
    by_test false h = absurd h
below_both (Some z) (Some x) (Some y) h = by_test (nat_lt y.0 x.0) refl h
  where
    by_test : (b : Bool) → nat_lt y.0 x.0 ≡ b → NotAbove (Some z) (cond b (Some y) (Some x)) →
        (z.0 ≤ x.0) × (z.0 ≤ y.0)
    by_test true e h = (grind (arith, nat_tests), h)
    by_test false e h = (h, grind (arith, nat_tests))

one_of : (r f : Option (ℕ × Action)) → (earlier_of r f ≡ r) ⊎ (earlier_of r f ≡ f)
one_of None f = inr refl
one_of (Some x) None = inl refl
one_of (Some x) (Some y) = by_test (nat_lt y.0 x.0)
  where
    by_test : (b : Bool) → (cond b (Some y) (Some x) ≡ Some x) ⊎ (cond b (Some y) (Some x) ≡ Some y)
    by_test true = inr refl
    by_test false = inl refl

none_above : (r : Option (ℕ × Action)) → NotAbove None r → None ≡ r
none_above None h = refl
none_above (Some x) h = absurd h

-- no name is below one before it
abbrev pub From : Payload → List (ℕ × Change) → Type 0
From p xs = AllByRecursion (λ y. is_lt (name_cmp y.1.payload p) ≡ false) xs

abbrev pub Row : List (ℕ × Change) → Type 0
Row [] = Unit {0}
Row (x ∷ xs) = From x.1.payload xs × Row xs

abbrev pub FromLast : Option Change → List (ℕ × Change) → Type 0
FromLast None xs = Unit {0}
FromLast (Some b) xs = From b.payload xs

none_named : (q p : Payload) (xs : List (ℕ × Change)) → is_eq (name_cmp q p) ≡ true →
    AllByRecursion (λ (y : ℕ × Change). name_cmp p y.1.payload ≡ Less) xs → of_pair q xs ≡ []
none_named q p [] n a = refl
none_named q p (x ∷ xs) n (g, a) =
    ap (λ b. cond b (x ∷ of_pair q xs) (of_pair q xs))
    (laws.congr q p x.1.payload n ∙ ap is_eq g)
    ∙ none_named q p xs n a

all_over : (q p : Payload) (xs : List (ℕ × Change)) → name_cmp q p ≡ Less → From p xs →
    AllByRecursion (λ (y : ℕ × Change). name_cmp q y.1.payload ≡ Less) xs
all_over q p [] l a = tt
all_over q p (x ∷ xs) l (g, a) = (over q p x.1.payload l g, all_over q p xs l a)

module _ (d : List Payload) where
  -- whether the name is there after the last change
  abbrev state : Option Change → Payload → Bool
  state None q = has_name d q
  state (Some b) q =
      cond (is_eq (name_cmp q b.payload)) (is_action Announce b.action) (has_name d q)

  state_is : (last : Option Change) (q : Payload) (c : Change) →
      is_eq (name_cmp q c.payload) ≡ true → state last q ≡ there_before d last c
  state_is None q c n = same_names d q c.payload n
  state_is (Some b) q c n =
      (λ i. cond ((laws.congr q c.payload b.payload n ∙ laws.symm c.payload b.payload) i)
      (is_action Announce b.action) (same_names d q c.payload n i))

  pub record Least (last : Option Change) (r : Option (ℕ × Action)) (xs : List (ℕ × Change))
      (e : Option (ℕ × Action)) : Type 0 where
    pub below : NotAbove e r
    pub names : (q : Payload) → NotAbove e (first_bad (state last q) (of_pair q xs))
    pub from : (e ≡ r) ⊎ ((q : Payload) × (e ≡ first_bad (state last q) (of_pair q xs)))

  module _ (last : Option Change) (r : Option (ℕ × Action)) (x : ℕ × Change)
      (xs : List (ℕ × Change)) (after : FromLast last (x ∷ xs)) (row : From x.1.payload xs)
      (up : (q : Payload) → Up (of_pair q (x ∷ xs))) where
    abbrev c : Change
    c = x.1

    abbrev t : Bool
    t = there_before d last c

    abbrev f : Option (ℕ × Action)
    f = disallowed t x.0 c.action c.payload

    -- another name
    other : (q : Payload) → is_eq (name_cmp q c.payload) ≡ false →
        first_bad (state last q) (of_pair q (x ∷ xs)) ≡
        first_bad (state (Some c) q) (of_pair q xs)
    other q n =
        ap (λ b. first_bad (state last q) (cond b (x ∷ of_pair q xs) (of_pair q xs))) n
        ∙ by_last last after
        ∙ sym (ap (λ b. first_bad (cond b (is_action Announce c.action) (has_name d q))
        (of_pair q xs)) n)
      where
        by_last : (l : Option Change) → FromLast l (x ∷ xs) →
            first_bad (state l q) (of_pair q xs) ≡ first_bad (has_name d q) (of_pair q xs)
        by_last None a = refl
        by_last (Some b) a = by_name (is_eq (name_cmp q b.payload)) refl
          where
            by_name : (s : Bool) → is_eq (name_cmp q b.payload) ≡ s →
                first_bad (cond s (is_action Announce b.action) (has_name d q)) (of_pair q xs) ≡
                first_bad (has_name d q) (of_pair q xs)
            by_name false m = refl
            by_name true m =
                let apart : same_name b c ≡ false = sym (laws.congr q b.payload c.payload m) ∙ n in
                let none : of_pair q xs ≡ [] =
                none_named q b.payload xs m
                (all_over b.payload c.payload xs (rises b c a.0 apart) row) in
                ap (first_bad (is_action Announce b.action)) none
                ∙ sym (ap (first_bad (has_name d q)) none)

    -- the same name
    same : (q : Payload) → is_eq (name_cmp q c.payload) ≡ true →
        first_bad (state last q) (of_pair q (x ∷ xs)) ≡
        cond (fits t c.action c.payload) (first_bad (state (Some c) q) (of_pair q xs))
        (Some (x.0, c.action))
    same q n =
        ap (λ b. first_bad (state last q) (cond b (x ∷ of_pair q xs) (of_pair q xs))) n
        ∙ ap (λ s. cond (fits s c.action c.payload)
        (first_bad (is_action Announce c.action) (of_pair q xs)) (Some (x.0, c.action)))
        (state_is last q c n)
        ∙ sym (ap (λ b. cond (fits t c.action c.payload)
        (first_bad (cond b (is_action Announce c.action) (has_name d q)) (of_pair q xs))
        (Some (x.0, c.action))) n)

    over_it : (q : Payload) → is_eq (name_cmp q c.payload) ≡ true → (z : ℕ × Action) →
        first_bad (state (Some c) q) (of_pair q xs) ≡ Some z → x.0 < z.0
    over_it q n z e =
        bad_over x.0 (state (Some c) q) (of_pair q xs) z
        (subst (λ b. Up (cond b (x ∷ of_pair q xs) (of_pair q xs))) n (up q)).0 e

    up_left : (q : Payload) → Up (of_pair q xs)
    up_left q = by_name (is_eq (name_cmp q c.payload)) (up q)
      where
        by_name : (b : Bool) → Up (cond b (x ∷ of_pair q xs) (of_pair q xs)) →
            Up (of_pair q xs)
        by_name true u = u.1
        by_name false u = u

    module _ (e : Option (ℕ × Action)) (ih : Least (Some c) (earlier_of r f) xs e) where
      both : NotAbove e r × NotAbove e f
      both = below_both e r f ih.below

      names_at : (q : Payload) → NotAbove e (first_bad (state last q) (of_pair q (x ∷ xs)))
      names_at q = by_name (is_eq (name_cmp q c.payload)) refl
        where
          by_fit : (b : Bool) → NotAbove e (cond b None (Some (x.0, c.action))) →
              NotAbove e
              (cond b (first_bad (state (Some c) q) (of_pair q xs)) (Some (x.0, c.action)))
          by_fit true h = ih.names q
          by_fit false h = h

          by_name : (b : Bool) → is_eq (name_cmp q c.payload) ≡ b →
              NotAbove e (first_bad (state last q) (of_pair q (x ∷ xs)))
          by_name true n =
              subst (NotAbove e) (sym (same q n)) (by_fit (fits t c.action c.payload) both.1)
          by_name false n = subst (NotAbove e) (sym (other q n)) (ih.names q)

      abbrev Comes : Type 0
      Comes = (e ≡ r) ⊎ ((q : Payload) × (e ≡ first_bad (state last q) (of_pair q (x ∷ xs))))

      of_it : e ≡ f → Comes
      of_it h = by_fit (fits t c.action c.payload) refl
        where
          by_fit : (b : Bool) → fits t c.action c.payload ≡ b → Comes
          by_fit true g =
              let none : e ≡ None = h ∙ ap (λ b. cond b None (Some (x.0, c.action))) g in
              inl (none ∙ none_above r (subst (λ y. NotAbove y r) none both.0))
          by_fit false g =
              inr (
                c.payload,
                h ∙ ap (λ b. cond b None (Some (x.0, c.action))) g
                    ∙ sym (same c.payload (own_name c.payload)
                    ∙ ap (λ b. cond b (first_bad (state (Some c) c.payload) (of_pair c.payload xs))
                    (Some (x.0, c.action))) g),
              )

      not_later : (q : Payload) → is_eq (name_cmp q c.payload) ≡ true →
          e ≡ first_bad (state (Some c) q) (of_pair q xs) → NotAbove e (Some (x.0, c.action)) → ⊥
      not_later q n h low = by_value e h low
        where
          by_value : (y : Option (ℕ × Action)) →
              y ≡ first_bad (state (Some c) q) (of_pair q xs) →
              NotAbove y (Some (x.0, c.action)) → ⊥
          by_value None h low = low
          by_value (Some z) h low = let l = over_it q n z (sym h) in omega (arith, l, low)

      of_name : (q : Payload) → e ≡ first_bad (state (Some c) q) (of_pair q xs) → Comes
      of_name q h = by_name (is_eq (name_cmp q c.payload)) refl
        where
          by_fit : is_eq (name_cmp q c.payload) ≡ true → (b : Bool) →
              fits t c.action c.payload ≡ b → Comes
          by_fit n true g =
              inr (
                q,
                h ∙ sym (same q n
                    ∙ ap (λ b. cond b (first_bad (state (Some c) q) (of_pair q xs))
                    (Some (x.0, c.action))) g),
              )
          by_fit n false g =
              absurd (not_later q n h
              (subst (NotAbove e) (ap (λ b. cond b None (Some (x.0, c.action))) g) both.1))

          by_name : (b : Bool) → is_eq (name_cmp q c.payload) ≡ b → Comes
          by_name true n = by_fit n (fits t c.action c.payload) refl
          by_name false n = inr (q, h ∙ sym (other q n))

      comes : Comes
      comes = elim ih.from [
        | inl h ↦ elim (one_of r f) [
          | inl g ↦ inl (h ∙ g)
          | inr g ↦ of_it (h ∙ g)
        ]
        | inr n ↦ of_name n.0 n.1
      ]

      stepped : Least last r (x ∷ xs) e
      stepped = record { below = both.0; names = names_at; from = comes }

  pub least : (last : Option Change) (r : Option (ℕ × Action)) (xs : List (ℕ × Change)) →
      FromLast last xs → Row xs → ((q : Payload) → Up (of_pair q xs)) →
      Least last r xs (earliest d last r xs)
  least last r [] after row up = record { below = itself r; names = λ q. tt; from = inl refl }
  least last r (x ∷ xs) after (row, rows) up =
      stepped last r x xs after row up
      (earliest d (Some x.1) (earlier_of r (f last r x xs after row up)) xs)
      (least (Some x.1) (earlier_of r (f last r x xs after row up)) xs row rows
      (up_left last r x xs after row up))
