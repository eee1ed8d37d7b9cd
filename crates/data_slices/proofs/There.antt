-- What is there of a name, and what a change makes of that.
use Rattle.std.proofs.Common.{◌≡◌, Bool, true, false, not, ◌&&◌, ◌||◌, cond, List, [], ◌∷◌}
use Rattle.std.proofs.Common.{Result, Ok, Err, refl, sym, ap, ◌∙◌}
use Rattle.std.proofs.lemmas.Bool.{false≢true}
use Rattle.std.specs.BTreeMap.{is_at}
use Rattle.std.specs.BTreeSet.{replace_key}
use Rattle.std.specs.Cmp.{Equal-is, tied_itself}
use Rattle.std.specs.List.{filter, AllByRecursion}
use Rattle.std.specs.List.Sorted.{IsStrictlySortedBy}
use Rattle.std.specs.Ordering.{is_eq, match_ordering}
use Rattle.std.specs.Set.{remove_key}
use Rattle.std.specs.declared.cmp.Ordering.{Ordering}
use Rattle.std.specs.declared.cmp.Ordering.TheVariants.{Less, Equal, Greater}
use Rattle.rtr_base.specs.declared.action.Action.{Action}
use Rattle.rtr_base.specs.declared.action.Action.TheVariants.{Announce, Withdraw}
use Rattle.rtr_payload.specs.Payloads.{Payload}
use Rattle.data_memory.specs.declared.change_error.ChangeError.{ChangeError}
use Rattle.data_memory.specs.declared.change_error.ChangeError.TheVariants.{Duplicate, Unknown}
use Rattle.data_memory.specs.Data.{Change, IsData, changed, has_name, name_cmp, takes_place}
use Rattle.data_memory.proofs.Merge.{laws, same_names}
use Rattle.data_memory.proofs.Names.{name_total, below, below_all, as_first}
use Rattle.data_memory.proofs.Changes.{is_if, is_unless}

-- those of the name
abbrev pub there : Payload → List Payload → List Payload
there p d = filter (λ q. is_eq (name_cmp p q)) d

abbrev pub is_some : List Payload → Bool
is_some [] = false
is_some (x ∷ xs) = true

pub none_there : (p : Payload) (d : List Payload) →
    AllByRecursion (λ q. name_cmp p q ≡ Less) d → there p d ≡ []
none_there p [] h = refl
none_there p (x ∷ d) (g, h) =
    ap (λ o. cond (is_eq o) (x ∷ there p d) (there p d)) g ∙ none_there p d h

named_at : (b : Bool) (x : Payload) (xs : List Payload) (n : Bool) → n ≡ is_some xs →
    (b || n) ≡ is_some (cond b (x ∷ xs) xs)
named_at true x xs n h = refl
named_at false x xs n h = h

pub named : (p : Payload) (d : List Payload) → has_name d p ≡ is_some (there p d)
named p [] = refl
named p (x ∷ d) =
    named_at (is_eq (name_cmp p x)) x (there p d) (has_name d p) (named p d)

-- ---- names of two payloads

is_equal : (p q : Payload) → is_eq (name_cmp p q) ≡ true → name_cmp p q ≡ Equal
is_equal p q n = (Equal-is (name_cmp p q)).0 n

-- what is of the name of a payload below all is below all
under : (p q : Payload) (d : List Payload) → is_eq (name_cmp p q) ≡ true →
    AllByRecursion (λ r. name_cmp q r ≡ Less) d → there p d ≡ []
under p q d n a = none_there p d (as_first p q (is_equal p q n) d a)

-- ---- after an announcement of q

pick : (b : Bool) (q : Payload) (xs : List Payload) → (b ≡ true → xs ≡ []) →
    cond b (q ∷ xs) xs ≡ cond b (q ∷ []) xs
pick true q xs h = ap (λ l. q ∷ l) (h refl)
pick false q xs h = refl

pick_over : (b c : Bool) (q x : Payload) (xs : List Payload) → (b ≡ true → xs ≡ []) →
    (b ≡ false → c ≡ false) → cond b (q ∷ xs) xs ≡ cond b (q ∷ []) (cond c (x ∷ xs) xs)
pick_over true c q x xs h k = ap (λ l. q ∷ l) (h refl)
pick_over false c q x xs h k = ap (λ t. cond t (x ∷ xs) xs) (sym (k refl))

pick_after : (b c : Bool) (x : Payload) (new xs ys : List Payload) → (b ≡ true → c ≡ false) →
    ys ≡ cond b new xs → cond c (x ∷ ys) ys ≡ cond b new (cond c (x ∷ xs) xs)
pick_after true c x new xs ys k e = ap (λ t. cond t (x ∷ ys) ys) (k refl) ∙ e
pick_after false c x new xs ys k e = ap (λ l. cond c (x ∷ l) l) e

-- q is of another name than x: so is p, of the name of q
apart : (p q x : Payload) → is_eq (name_cmp q x) ≡ false → is_eq (name_cmp p q) ≡ true →
    is_eq (name_cmp p x) ≡ false
apart p q x n m = laws.congr p q x m ∙ n

-- q is of the name of x: p, of another, is of another than x
apart_too : (p q x : Payload) → is_eq (name_cmp q x) ≡ true → is_eq (name_cmp p q) ≡ false →
    is_eq (name_cmp p x) ≡ false
apart_too p q x n m = laws.symm p x ∙ sym (laws.congr q x p n) ∙ laws.symm q p ∙ m

replaced_at : (p q x : Payload) (d : List Payload) → IsData (x ∷ d) →
    there p (replace_key name_cmp d q) ≡ cond (is_eq (name_cmp p q)) (q ∷ []) (there p d) →
    (o : Ordering) → name_cmp q x ≡ o →
    there p (match_ordering o (q ∷ x ∷ d) (q ∷ d) (x ∷ replace_key name_cmp d q)) ≡
    cond (is_eq (name_cmp p q)) (q ∷ []) (there p (x ∷ d))
unfolding IsStrictlySortedBy
replaced_at p q x d (a, s) ih Less e =
    pick (is_eq (name_cmp p q)) q (there p (x ∷ d))
    (λ n. under p q (x ∷ d) n (e, below_all q x e d a))
replaced_at p q x d (a, s) ih Equal e =
    pick_over (is_eq (name_cmp p q)) (is_eq (name_cmp p x)) q x (there p d)
    (λ n. under p q d n (as_first q x e d a)) (apart_too p q x (ap is_eq e))
replaced_at p q x d (a, s) ih Greater e =
    pick_after (is_eq (name_cmp p q)) (is_eq (name_cmp p x)) x (q ∷ []) (there p d)
    (there p (replace_key name_cmp d q)) (apart p q x (ap is_eq e)) ih

pub replaced : (p q : Payload) (d : List Payload) → IsData d →
    there p (replace_key name_cmp d q) ≡ cond (is_eq (name_cmp p q)) (q ∷ []) (there p d)
unfolding IsStrictlySortedBy
replaced p q [] s = refl
replaced p q (x ∷ d) s =
    replaced_at p q x d s (replaced p q d s.1) (name_cmp q x) refl

-- ---- after a withdrawal of q

gone : (b c : Bool) (x : Payload) (xs : List Payload) → (b ≡ true → xs ≡ []) →
    (b ≡ false → c ≡ false) → xs ≡ cond b [] (cond c (x ∷ xs) xs)
gone true c x xs h k = h refl
gone false c x xs h k = ap (λ t. cond t (x ∷ xs) xs) (sym (k refl))

removed_at : (p q x : Payload) (d : List Payload) → IsData (x ∷ d) →
    there p (remove_key (is_at (name_cmp q)) d) ≡ cond (is_eq (name_cmp p q)) [] (there p d) →
    (b : Bool) → is_eq (name_cmp q x) ≡ b →
    there p (cond b d (x ∷ remove_key (is_at (name_cmp q)) d)) ≡
    cond (is_eq (name_cmp p q)) [] (there p (x ∷ d))
unfolding IsStrictlySortedBy
removed_at p q x d (a, s) ih true e =
    gone (is_eq (name_cmp p q)) (is_eq (name_cmp p x)) x (there p d)
    (λ n. under p q d n (as_first q x (is_equal q x e) d a)) (apart_too p q x e)
removed_at p q x d (a, s) ih false e =
    pick_after (is_eq (name_cmp p q)) (is_eq (name_cmp p x)) x [] (there p d)
    (there p (remove_key (is_at (name_cmp q)) d)) (apart p q x e) ih

pub removed : (p q : Payload) (d : List Payload) → IsData d →
    there p (remove_key (is_at (name_cmp q)) d) ≡ cond (is_eq (name_cmp p q)) [] (there p d)
unfolding IsStrictlySortedBy
removed p q [] s = elim (is_eq (name_cmp p q)) as (λ b. ◌≡◌ {A = List Payload} [] (cond b [] [])) [
  | true ↦ refl
  | false ↦ refl
]
removed p q (x ∷ d) s =
    removed_at p q x d s (removed p q d s.1) (is_eq (name_cmp q x)) refl

-- ---- a change of one name

abbrev pub step_at : Action → Payload → List Payload → Result (List Payload) ChangeError
step_at Announce x s = cond (is_some s && not (takes_place x)) (Err Duplicate) (Ok (x ∷ []))
step_at Withdraw x s = cond (is_some s) (Ok []) (Err Unknown)

abbrev pub step : Change → List Payload → Result (List Payload) ChangeError
step c s = step_at c.action c.payload s

-- what is there of the name, where that is data
abbrev pub seen : Payload → Result (List Payload) ChangeError →
    Result (List Payload) ChangeError
seen p (Ok d) = Ok (there p d)
seen p (Err e) = Err e

seen_if : (p : Payload) (b : Bool) (e : ChangeError) (d : List Payload) →
    seen p (cond b (Err e) (Ok d)) ≡ cond b (Err e) (Ok (there p d))
seen_if p true e d = refl
seen_if p false e d = refl

seen_unless : (p : Payload) (b : Bool) (e : ChangeError) (d : List Payload) →
    seen p (cond b (Ok d) (Err e)) ≡ cond b (Ok (there p d)) (Err e)
seen_unless p true e d = refl
seen_unless p false e d = refl

named_as : (p x : Payload) (d : List Payload) → is_eq (name_cmp p x) ≡ true →
    has_name d x ≡ is_some (there p d)
named_as p x d n = sym (same_names d p x n) ∙ named p d

pub same_step : (a : Action) (p x : Payload) (d : List Payload) → IsData d →
    is_eq (name_cmp p x) ≡ true → seen p (changed a x d) ≡ step_at a x (there p d)
same_step Announce p x d s n =
    seen_if p (has_name d x && not (takes_place x)) Duplicate (replace_key name_cmp d x)
    ∙ ap (λ b. cond (b && not (takes_place x)) (Err Duplicate)
    (Ok (there p (replace_key name_cmp d x)))) (named_as p x d n)
    ∙ ap (λ l. cond (is_some (there p d) && not (takes_place x)) (Err Duplicate) (Ok l))
    (replaced p x d s ∙ ap (λ b. cond b (x ∷ []) (there p d)) n)
same_step Withdraw p x d s n =
    seen_unless p (has_name d x) Unknown (remove_key (is_at (name_cmp x)) d)
    ∙ ap (λ b. cond b (Ok (there p (remove_key (is_at (name_cmp x)) d))) (Err Unknown))
    (named_as p x d n)
    ∙ ap (λ l. cond (is_some (there p d)) (Ok l) (Err Unknown))
    (removed p x d s ∙ ap (λ b. cond b [] (there p d)) n)

-- a change of another name
pub other_step : (a : Action) (p x : Payload) (d e : List Payload) → IsData d →
    is_eq (name_cmp p x) ≡ false → changed a x d ≡ Ok e → there p e ≡ there p d
other_step Announce p x d e s n h =
    ap (there p) (sym (is_if (has_name d x && not (takes_place x)) Duplicate
    (replace_key name_cmp d x) e h))
    ∙ replaced p x d s ∙ ap (λ b. cond b (x ∷ []) (there p d)) n
other_step Withdraw p x d e s n h =
    ap (there p) (sym (is_unless (has_name d x) Unknown (remove_key (is_at (name_cmp x)) d) e h))
    ∙ removed p x d s ∙ ap (λ b. cond b [] (there p d)) n

-- ---- data is what is there of each name

first_there : (p : Payload) (d : List Payload) → there p (p ∷ d) ≡ p ∷ there p d
first_there p d =
    ap (λ o. cond (is_eq o) (p ∷ there p d) (there p d)) (tied_itself name_total p)

not_none : (p : Payload) (xs : List Payload) → p ∷ xs ≡ [] → ⊥
not_none p xs e = absurd cc

tail_there : (b c : Bool) (x : Payload) (xs ys : List Payload) → b ≡ c →
    (b ≡ true → xs ≡ ys) → cond b (x ∷ xs) xs ≡ cond c (x ∷ ys) ys → xs ≡ ys
tail_there true c x xs ys e h k = h refl
tail_there false true x xs ys e h k = absurd (false≢true e)
tail_there false false x xs ys e h k = k

module _ (x y : Payload) (d e : List Payload) (s : IsData (x ∷ d)) (t : IsData (y ∷ e))
    (alike : (p : Payload) → there p (x ∷ d) ≡ there p (y ∷ e)) where
  not_below : name_cmp x y ≡ Less → ⊥
  unfolding IsStrictlySortedBy
  not_below h =
      not_none x (there x d) (sym (first_there x d) ∙ alike x
      ∙ none_there x (y ∷ e) (h, below_all x y h e t.0))

  not_above : name_cmp x y ≡ Greater → ⊥
  unfolding IsStrictlySortedBy
  not_above h =
      let l : name_cmp y x ≡ Less = below x y h in
      not_none y (there y e) (sym (first_there y e) ∙ sym (alike y)
      ∙ none_there y (x ∷ d) (l, below_all y x l d s.0))

  first_same : name_cmp x y ≡ Equal → x ≡ y
  first_same h =
      let same : x ∷ there x d ≡ y ∷ there x e =
      sym (first_there x d) ∙ alike x
      ∙ ap (λ o. cond (is_eq o) (y ∷ there x e) (there x e)) h in
      cc

  rest_same : x ≡ y → (p : Payload) → there p d ≡ there p e
  unfolding IsStrictlySortedBy
  rest_same h p =
      tail_there (is_eq (name_cmp p x)) (is_eq (name_cmp p y)) x (there p d) (there p e)
      (ap (λ z. is_eq (name_cmp p z)) h)
      (λ n. under p x d n s.0
      ∙ sym (under p y e (sym (ap (λ z. is_eq (name_cmp p z)) h) ∙ n) t.0))
      (alike p ∙ ap (λ z. cond (is_eq (name_cmp p y)) (z ∷ there p e) (there p e)) (sym h))

  by_order : (o : Ordering) → name_cmp x y ≡ o → x ≡ y
  by_order Less h = absurd (not_below h)
  by_order Equal h = first_same h
  by_order Greater h = absurd (not_above h)

pub same_data : (d e : List Payload) → IsData d → IsData e →
    ((p : Payload) → there p d ≡ there p e) → d ≡ e
unfolding IsStrictlySortedBy
same_data [] [] s t alike = refl
same_data [] (y ∷ e) s t alike =
    absurd (not_none y (there y e) (sym (alike y ∙ first_there y e)))
same_data (x ∷ d) [] s t alike =
    absurd (not_none x (there x d) (sym (first_there x d) ∙ alike x))
same_data (x ∷ d) (y ∷ e) s t alike =
    let first = by_order x y d e s t alike (name_cmp x y) refl in
    let rest = same_data d e s.1 t.1 (rest_same x y d e s t alike first) in
    (λ i. first i ∷ rest i)

-- ---- what is there of a name is one payload of it, or none

abbrev pub Fine : Payload → List Payload → Type 0
Fine p [] = Unit {0}
Fine p (x ∷ []) = is_eq (name_cmp p x) ≡ true
Fine p (x ∷ y ∷ xs) = ⊥

fine_at : (p x : Payload) (xs : List Payload) (b : Bool) → is_eq (name_cmp p x) ≡ b →
    (b ≡ true → xs ≡ []) → Fine p xs → Fine p (cond b (x ∷ xs) xs)
fine_at p x [] true e h f = e
fine_at p x (y ∷ ys) true e h f = absurd (not_none y ys (h refl))
fine_at p x xs false e h f = f

pub fine : (p : Payload) (d : List Payload) → IsData d → Fine p (there p d)
unfolding IsStrictlySortedBy
fine p [] s = tt
fine p (x ∷ d) (a, s) =
    fine_at p x (there p d) (is_eq (name_cmp p x)) refl (λ n. under p x d n a) (fine p d s)
