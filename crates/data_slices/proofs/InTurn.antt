-- Changes one after the other: the first that data don't allow, from those of each name.
use Rattle.data_slices.specs.AtOffsets.{Over, StoppedAt, Up, made_by, why}
use Rattle.std.proofs.Common.{◌≡◌, ◌≤◌, ◌<◌, ℕ, Bool, true, false, not, ◌&&◌, cond, List, []}
use Rattle.std.proofs.Common.{◌∷◌, Option, Some, None, Ok, Err, refl, sym, ap, subst}
use Rattle.std.proofs.Common.{◌∙◌, arith}
use Rattle.std.specs.BTreeMap.{is_at}
use Rattle.std.specs.BTreeSet.{replace_key}
use Rattle.std.specs.Ordering.{is_eq}
use Rattle.std.specs.Set.{remove_key}
use Rattle.rtr_base.specs.declared.action.Action.{Action}
use Rattle.rtr_base.specs.declared.action.Action.TheVariants.{Announce, Withdraw}
use Rattle.rtr_payload.specs.Payloads.{Payload}
use Rattle.data_memory.specs.Changes.{after_all}
use Rattle.data_memory.specs.Data.{Change, IsData, changed, has_name, name_cmp, takes_place}
use Rattle.data_memory.specs.declared.change_error.ChangeError.TheVariants.{Duplicate, Unknown}
use Rattle.data_memory.proofs.Changes.{after_data}
use Rattle.data_memory.proofs.Merge.{same_names}
use Rattle.data_slices.specs.InOrder.{AreAllowed}
use Rattle.data_slices.specs.PrivateInOrder.{fits}
use Rattle.data_slices.specs.PrivateOffsets.{is_action}
use Rattle.data_slices.proofs.There.{is_some, named, removed, replaced, there}
use Rattle.data_slices.proofs.Walking.{own_name}

-- ---- what a change makes

abbrev pub made_of : Action → Payload → List Payload → List Payload
made_of Announce p d = replace_key name_cmp d p
made_of Withdraw p d = remove_key (is_at (name_cmp p)) d

not_true : (b : Bool) → not b ≡ true → b ≡ false
not_true true e = sym e
not_true false e = refl

not_false : (b : Bool) → not b ≡ false → b ≡ true
not_false true e = refl
not_false false e = sym e

makes : (a : Action) (p : Payload) (d : List Payload) → fits (has_name d p) a p ≡ true →
    changed a p d ≡ Ok (made_of a p d)
makes Announce p d h =
    ap (λ b. cond b (Err Duplicate) (Ok (replace_key name_cmp d p)))
    (not_true (has_name d p && not (takes_place p)) h)
makes Withdraw p d h =
    ap (λ b. cond b (Ok (remove_key (is_at (name_cmp p)) d)) (Err Unknown)) h

refuses : (a : Action) (p : Payload) (d : List Payload) → fits (has_name d p) a p ≡ false →
    changed a p d ≡ Err (why a)
refuses Announce p d h =
    ap (λ b. cond b (Err Duplicate) (Ok (replace_key name_cmp d p)))
    (not_false (has_name d p && not (takes_place p)) h)
refuses Withdraw p d h =
    ap (λ b. cond b (Ok (remove_key (is_at (name_cmp p)) d)) (Err Unknown)) h

there_if : (b : Bool) (q p : Payload) (d : List Payload) →
    is_some (cond b (p ∷ []) (there q d)) ≡ cond b true (has_name d q)
there_if true q p d = refl
there_if false q p d = sym (named q d)

gone_if : (b : Bool) (q : Payload) (d : List Payload) →
    is_some (cond b [] (there q d)) ≡ cond b false (has_name d q)
gone_if true q d = refl
gone_if false q d = sym (named q d)

named_after : (a : Action) (p q : Payload) (d : List Payload) → IsData d →
    has_name (made_of a p d) q ≡
    cond (is_eq (name_cmp q p)) (is_action Announce a) (has_name d q)
named_after Announce p q d s =
    named q (replace_key name_cmp d p) ∙ ap is_some (replaced q p d s)
    ∙ there_if (is_eq (name_cmp q p)) q p d
named_after Withdraw p q d s =
    named q (remove_key (is_at (name_cmp p)) d) ∙ ap is_some (removed q p d s)
    ∙ gone_if (is_eq (name_cmp q p)) q d

-- ---- changes and their places

-- those of the name
abbrev pub of_pair : Payload → List (ℕ × Change) → List (ℕ × Change)
of_pair p [] = []
of_pair p (x ∷ xs) =
    cond (is_eq (name_cmp p x.1.payload)) (x ∷ of_pair p xs) (of_pair p xs)

-- of changes of one name, the first that isn't allowed, where the name is there or not
abbrev pub first_bad : Bool → List (ℕ × Change) → Option (ℕ × Action)
first_bad is_there [] = None
first_bad is_there (x ∷ xs) =
    cond (fits is_there x.1.action x.1.payload) (first_bad (is_action Announce x.1.action) xs)
    (Some (x.0, x.1.action))

some_is : (x y : ℕ × Action) → Some x ≡ Some y → x ≡ y
some_is x y e = cc

pub bad_over : (n : ℕ) (s : Bool) (xs : List (ℕ × Change)) (r : ℕ × Action) → Over n xs →
    first_bad s xs ≡ Some r → n < r.0
bad_over n s [] r a e = absurd cc
bad_over n s (x ∷ xs) r (g, a) e =
    by_test (bad_over n (is_action Announce x.1.action) xs r a) (fits s x.1.action x.1.payload) e
  where
    by_test : (first_bad (is_action Announce x.1.action) xs ≡ Some r → n < r.0) → (b : Bool) →
        cond b (first_bad (is_action Announce x.1.action) xs) (Some (x.0, x.1.action)) ≡ Some r →
        n < r.0
    by_test ih true e = ih e
    by_test ih false e = subst (λ (y : ℕ × Action). n < y.0) (some_is (x.0, x.1.action) r e) g

kept_over : (n : ℕ) (p : Payload) (xs : List (ℕ × Change)) → Over n xs → Over n (of_pair p xs)
kept_over n p [] a = tt
kept_over n p (x ∷ xs) (g, a) = by_test (kept_over n p xs a) (is_eq (name_cmp p x.1.payload))
  where
    by_test : Over n (of_pair p xs) → (b : Bool) →
        Over n (cond b (x ∷ of_pair p xs) (of_pair p xs))
    by_test ih true = (g, ih)
    by_test ih false = ih

pub kept_up : (p : Payload) (xs : List (ℕ × Change)) → Up xs → Up (of_pair p xs)
kept_up p [] u = tt
kept_up p (x ∷ xs) (a, u) = by_test (kept_up p xs u) (is_eq (name_cmp p x.1.payload))
  where
    by_test : Up (of_pair p xs) → (b : Bool) → Up (cond b (x ∷ of_pair p xs) (of_pair p xs))
    by_test ih true = (kept_over x.0 p xs a, ih)
    by_test ih false = ih

-- ---- the first that isn't allowed

module _ (x : ℕ × Change) (xs : List (ℕ × Change)) (d : List Payload) (s : IsData d) where
  abbrev next : List Payload
  next = made_of x.1.action x.1.payload d

  abbrev fit : Bool
  fit = fits (has_name d x.1.payload) x.1.action x.1.payload

  -- of a name, what isn't allowed after an allowed change
  same_bad : fit ≡ true → (q : Payload) →
      first_bad (has_name d q) (of_pair q (x ∷ xs)) ≡
      first_bad (has_name next q) (of_pair q xs)
  same_bad f q = by_name (is_eq (name_cmp q x.1.payload)) refl
    where
      by_name : (b : Bool) → is_eq (name_cmp q x.1.payload) ≡ b →
          first_bad (has_name d q) (cond b (x ∷ of_pair q xs) (of_pair q xs)) ≡
          first_bad (has_name next q) (of_pair q xs)
      by_name true n =
          ap (λ b. cond b (first_bad (is_action Announce x.1.action) (of_pair q xs))
          (Some (x.0, x.1.action)))
          (ap (λ t. fits t x.1.action x.1.payload) (same_names d q x.1.payload n) ∙ f)
          ∙ sym (ap (λ t. first_bad t (of_pair q xs))
          (named_after x.1.action x.1.payload q d s
          ∙ ap (λ b. cond b (is_action Announce x.1.action) (has_name d q)) n))
      by_name false n =
          sym (ap (λ t. first_bad t (of_pair q xs))
          (named_after x.1.action x.1.payload q d s
          ∙ ap (λ b. cond b (is_action Announce x.1.action) (has_name d q)) n))

  -- what isn't allowed of its own name
  own_bad : fit ≡ false →
      first_bad (has_name d x.1.payload) (of_pair x.1.payload (x ∷ xs)) ≡
      Some (x.0, x.1.action)
  own_bad f =
      ap (λ b. first_bad (has_name d x.1.payload)
      (cond b (x ∷ of_pair x.1.payload xs) (of_pair x.1.payload xs))) (own_name x.1.payload)
      ∙ ap (λ b. cond b
      (first_bad (is_action Announce x.1.action) (of_pair x.1.payload xs))
      (Some (x.0, x.1.action))) f

  -- it is the first change, or a later one
  is_first : fit ≡ false → Over x.0 xs → (p : Payload) (r : ℕ × Action) → r.0 ≤ x.0 →
      first_bad (has_name d p) (of_pair p (x ∷ xs)) ≡ Some r → (x.0, x.1.action) ≡ r
  is_first f a p r low e = by_name (is_eq (name_cmp p x.1.payload)) refl e
    where
      by_name : (b : Bool) → is_eq (name_cmp p x.1.payload) ≡ b →
          first_bad (has_name d p) (cond b (x ∷ of_pair p xs) (of_pair p xs)) ≡ Some r →
          (x.0, x.1.action) ≡ r
      by_name true n e =
          some_is (x.0, x.1.action) r
          (sym (ap (λ b. cond b
          (first_bad (is_action Announce x.1.action) (of_pair p xs))
          (Some (x.0, x.1.action)))
          (ap (λ t. fits t x.1.action x.1.payload) (same_names d p x.1.payload n) ∙ f)) ∙ e)
      by_name false n e =
          absurd (let over = bad_over x.0 (has_name d p) (of_pair p xs) r
          (kept_over x.0 p xs a) e in omega (arith, over, low))

pub stopped : (xs : List (ℕ × Change)) (d : List Payload) → IsData d → Up xs → (p : Payload)
    (r : ℕ × Action) → first_bad (has_name d p) (of_pair p xs) ≡ Some r →
    ((q : Payload) (t : ℕ × Action) → first_bad (has_name d q) (of_pair q xs) ≡ Some t →
    r.0 ≤ t.0) → StoppedAt xs d r
stopped [] d s u p r e least = absurd cc
stopped (x ∷ xs) d s (a, u) p r e least =
    by_fit (λ t. stopped xs (next x xs d s) t u p r) (fit x xs d s) refl
  where
    by_fit : (IsData (next x xs d s) →
        first_bad (has_name (next x xs d s) p) (of_pair p xs) ≡ Some r →
        ((q : Payload) (t : ℕ × Action) →
        first_bad (has_name (next x xs d s) q) (of_pair q xs) ≡ Some t → r.0 ≤ t.0) →
        StoppedAt xs (next x xs d s) r) →
        (b : Bool) → fit x xs d s ≡ b → StoppedAt (x ∷ xs) d r
    by_fit ih true f =
        let is = makes x.1.action x.1.payload d f in
        let rest = ih (after_data x.1 d (next x xs d s) s is)
        (sym (same_bad x xs d s f p) ∙ e) (λ q t h. least q t (same_bad x xs d s f q ∙ h)) in
        record {
          before = x ∷ rest.before;
          c = rest.c;
          later = rest.later;
          parts = ap (λ l. x ∷ l) rest.parts;
          made = rest.made;
          allowed = ap (after_all (made_by rest.before)) is ∙ rest.allowed;
          wrong = rest.wrong;
        }
    by_fit ih false f =
        let low = least x.1.payload (x.0, x.1.action) (own_bad x xs d s f) in
        let same = is_first x xs d s f a p r low e in
        record {
          before = [];
          c = x.1;
          later = xs;
          parts = ap (λ (y : ℕ × Action). (y.0, x.1) ∷ xs) same;
          made = d;
          allowed = refl;
          wrong =
              refuses x.1.action x.1.payload d f
              ∙ ap (λ (y : ℕ × Action). Err (why y.1)) same;
        }

pub allowed : (xs : List (ℕ × Change)) (d : List Payload) → IsData d →
    ((q : Payload) → first_bad (has_name d q) (of_pair q xs) ≡ None) →
    AreAllowed (made_by xs) d
allowed [] d s none = (d, refl)
allowed (x ∷ xs) d s none =
    by_fit (λ t. allowed xs (next x xs d s) t) (fit x xs d s) refl
  where
    by_fit : (IsData (next x xs d s) →
        ((q : Payload) → first_bad (has_name (next x xs d s) q) (of_pair q xs) ≡ None) →
        AreAllowed (made_by xs) (next x xs d s)) →
        (b : Bool) → fit x xs d s ≡ b → AreAllowed (made_by (x ∷ xs)) d
    by_fit ih true f =
        let is = makes x.1.action x.1.payload d f in
        let (made, rest) = ih (after_data x.1 d (next x xs d s) s is)
        (λ q. sym (same_bad x xs d s f q) ∙ none q) in
        (made, ap (after_all (made_by xs)) is ∙ rest)
    by_fit ih false f =
        absurd (let no = sym (own_bad x xs d s f) ∙ none x.1.payload in cc)
