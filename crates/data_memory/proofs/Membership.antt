-- What is there after a change, and that data stays data.
use Rattle.std.proofs.Common.{◌≡◌, Bool, true, false, ◌||◌, cond, List, [], ◌∷◌, refl, sym, ap, ◌∙◌}
use Rattle.std.specs.BTreeMap.{is_at}
use Rattle.std.specs.BTreeSet.{replace_key}
use Rattle.std.specs.List.{AllByRecursion}
use Rattle.std.specs.List.Sorted.{IsStrictlySortedBy}
use Rattle.std.specs.Ordering.{eq_by_cmp, is_eq, match_ordering}
use Rattle.std.specs.Set.{remove_key}
use Rattle.std.specs.declared.cmp.Ordering.{Ordering}
use Rattle.std.specs.declared.cmp.Ordering.TheVariants.{Less, Equal, Greater}
use Rattle.rtr_payload.specs.Orders.{payload_cmp}
use Rattle.rtr_payload.specs.Payloads.{Payload}
use Rattle.data_memory.specs.Data.{name_cmp, has, IsData}
use Rattle.std.specs.Cmp.{Equal-is, IsEquivalence, eq_by_cmp_equiv, tied_back}
use Rattle.data_memory.proofs.Names.{name_total, below, below_all, as_first}
use Rattle.data_memory.proofs.Names.{absent_very, not_very}

-- ---- data stays data

pub all_replace : (P : Payload → Type 0) (p : Payload) → P p → (d : List Payload) →
    AllByRecursion P d → AllByRecursion P (replace_key name_cmp d p)
all_replace P p h [] a = (h, tt)
all_replace P p h (x ∷ d) (g, a) =
    elim (name_cmp p x) as (λ o. AllByRecursion P
    (match_ordering o (p ∷ x ∷ d) (p ∷ d) (x ∷ replace_key name_cmp d p))) [
      | Less ↦ (h, (g, a))
      | Equal ↦ (h, a)
      | Greater ↦ (g, all_replace P p h d a)
    ]

replace_at : (p x : Payload) (d : List Payload) → IsData (x ∷ d) →
    IsData (replace_key name_cmp d p) → (o : Ordering) → name_cmp p x ≡ o →
    IsData (match_ordering o (p ∷ x ∷ d) (p ∷ d) (x ∷ replace_key name_cmp d p))
unfolding IsStrictlySortedBy
replace_at p x d (a, s) ih Less e = ((e, below_all p x e d a), (a, s))
replace_at p x d (a, s) ih Equal e = (as_first p x e d a, s)
replace_at p x d (a, s) ih Greater e =
    (all_replace (λ q. name_cmp x q ≡ Less) p (below p x e) d a, ih)

pub replaced_data : (p : Payload) (d : List Payload) → IsData d → IsData (replace_key name_cmp d p)
unfolding IsStrictlySortedBy
replaced_data p [] s = (tt, tt)
replaced_data p (x ∷ d) s =
    replace_at p x d s (replaced_data p d s.1) (name_cmp p x) refl

pub all_remove : (P : Payload → Type 0) (test : Payload → Bool) (d : List Payload) →
    AllByRecursion P d → AllByRecursion P (remove_key test d)
all_remove P test [] a = tt
all_remove P test (x ∷ d) (g, a) =
    elim (test x) as (λ b. AllByRecursion P (cond b d (x ∷ remove_key test d))) [
      | true ↦ a
      | false ↦ (g, all_remove P test d a)
    ]

pub removed_data : (test : Payload → Bool) (d : List Payload) → IsData d →
    IsData (remove_key test d)
unfolding IsStrictlySortedBy
removed_data test [] s = tt
removed_data test (x ∷ d) (a, s) =
    elim (test x) as (λ b. IsData (cond b d (x ∷ remove_key test d))) [
      | true ↦ s
      | false ↦ (all_remove (λ q. name_cmp x q ≡ Less) test d a, removed_data test d s)
    ]

-- ---- what is there

laws : IsEquivalence (eq_by_cmp name_cmp)
laws = eq_by_cmp_equiv name_total

-- what is not of the name of p is not p
other : (p q : Payload) → is_eq (name_cmp p q) ≡ false → is_eq (payload_cmp q p) ≡ false
other p q n = not_very q p (sym (laws.symm p q) ∙ n)

-- of x and q one is of the name of p
apart : (p q x : Payload) → is_eq (name_cmp p q) ≡ true → is_eq (name_cmp p x) ≡ false →
    is_eq (payload_cmp q x) ≡ false
apart p q x n m = not_very q x (sym (laws.congr p q x n) ∙ m)

apart_too : (p q x : Payload) → is_eq (name_cmp p q) ≡ false → is_eq (name_cmp p x) ≡ true →
    is_eq (payload_cmp q x) ≡ false
apart_too p q x n m = not_very q x (laws.symm q x ∙ sym (laws.congr p x q m) ∙ n)

-- what is of the name of p is not in a list above p
none_above : (p q : Payload) (d : List Payload) → is_eq (name_cmp p q) ≡ true →
    AllByRecursion (λ r. name_cmp p r ≡ Less) d → has d q ≡ false
none_above p q d n a =
    absent_very q d (as_first q p (tied_back name_total p q ((Equal-is (name_cmp p q)).0 n)) d a)

or_false : (v : Bool) → (v || false) ≡ v
or_false true = refl
or_false false = refl

pick : (n v w : Bool) → (n ≡ true → w ≡ false) → (n ≡ false → v ≡ false) →
    (v || w) ≡ cond n v w
pick true v w h k = ap (λ b. v || b) (h refl) ∙ or_false v
pick false v w h k = ap (λ b. b || w) (k refl)

pick_else : (n v w x : Bool) → (n ≡ false → x ≡ false) → cond n v w ≡ cond n v (x || w)
pick_else true v w x h = refl
pick_else false v w x h = sym (ap (λ b. b || w) (h refl))

pick_later : (n v w x : Bool) → (n ≡ true → x ≡ false) → (x || cond n v w) ≡ cond n v (x || w)
pick_later true v w x h = ap (λ b. b || v) (h refl)
pick_later false v w x h = refl

replaced_at : (p q x : Payload) (d : List Payload) → IsData (x ∷ d) →
    has (replace_key name_cmp d p) q ≡
    cond (is_eq (name_cmp p q)) (is_eq (payload_cmp q p)) (has d q) →
    (o : Ordering) → name_cmp p x ≡ o →
    has (match_ordering o (p ∷ x ∷ d) (p ∷ d) (x ∷ replace_key name_cmp d p)) q ≡
    cond (is_eq (name_cmp p q)) (is_eq (payload_cmp q p)) (has (x ∷ d) q)
unfolding IsStrictlySortedBy
replaced_at p q x d (a, s) ih Less e =
    pick (is_eq (name_cmp p q)) (is_eq (payload_cmp q p)) (has (x ∷ d) q)
    (λ n. none_above p q (x ∷ d) n (e, below_all p x e d a)) (other p q)
replaced_at p q x d (a, s) ih Equal e =
    pick (is_eq (name_cmp p q)) (is_eq (payload_cmp q p)) (has d q)
    (λ n. none_above p q d n (as_first p x e d a)) (other p q)
    ∙ pick_else (is_eq (name_cmp p q)) (is_eq (payload_cmp q p)) (has d q)
    (is_eq (payload_cmp q x)) (λ n. apart_too p q x n (ap is_eq e))
replaced_at p q x d (a, s) ih Greater e =
    ap (λ b. is_eq (payload_cmp q x) || b) ih
    ∙ pick_later (is_eq (name_cmp p q)) (is_eq (payload_cmp q p)) (has d q)
    (is_eq (payload_cmp q x)) (λ n. apart p q x n (ap is_eq e))

-- after an announcement of p, p is all that is there of its name; else there is what was
pub replaced_has : (p q : Payload) (d : List Payload) → IsData d →
    has (replace_key name_cmp d p) q ≡
    cond (is_eq (name_cmp p q)) (is_eq (payload_cmp q p)) (has d q)
unfolding IsStrictlySortedBy
replaced_has p q [] s =
    pick (is_eq (name_cmp p q)) (is_eq (payload_cmp q p)) false (λ n. refl) (other p q)
replaced_has p q (x ∷ d) s =
    replaced_at p q x d s (replaced_has p q d s.1) (name_cmp p x) refl

removed_at : (p q x : Payload) (d : List Payload) → IsData (x ∷ d) →
    has (remove_key (is_at (name_cmp p)) d) q ≡ cond (is_eq (name_cmp p q)) false (has d q) →
    (o : Ordering) → name_cmp p x ≡ o →
    has (cond (is_eq o) d (x ∷ remove_key (is_at (name_cmp p)) d)) q ≡
    cond (is_eq (name_cmp p q)) false (has (x ∷ d) q)
unfolding IsStrictlySortedBy
removed_at p q x d s ih Less e =
    ap (λ b. is_eq (payload_cmp q x) || b) ih
    ∙ pick_later (is_eq (name_cmp p q)) false (has d q)
    (is_eq (payload_cmp q x)) (λ n. apart p q x n (ap is_eq e))
removed_at p q x d (a, s) ih Equal e =
    pick (is_eq (name_cmp p q)) false (has d q)
    (λ n. none_above p q d n (as_first p x e d a)) (λ n. refl)
    ∙ pick_else (is_eq (name_cmp p q)) false (has d q)
    (is_eq (payload_cmp q x)) (λ n. apart_too p q x n (ap is_eq e))
removed_at p q x d s ih Greater e =
    ap (λ b. is_eq (payload_cmp q x) || b) ih
    ∙ pick_later (is_eq (name_cmp p q)) false (has d q)
    (is_eq (payload_cmp q x)) (λ n. apart p q x n (ap is_eq e))

-- after a withdrawal nothing of its name is there; else there is what was
pub removed_has : (p q : Payload) (d : List Payload) → IsData d →
    has (remove_key (is_at (name_cmp p)) d) q ≡ cond (is_eq (name_cmp p q)) false (has d q)
unfolding IsStrictlySortedBy
removed_has p q [] s = elim (is_eq (name_cmp p q)) as (λ b. false ≡ cond b false false) [
  | true ↦ refl
  | false ↦ refl
]
removed_has p q (x ∷ d) s =
    removed_at p q x d s (removed_has p q d s.1) (name_cmp p x) refl
