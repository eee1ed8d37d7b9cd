-- The names that are there after an announcement or a withdrawal.
use Rattle.std.proofs.Common.{◌≡◌, Bool, true, false, not, ◌||◌, ◌&&◌, cond, List, [], ◌∷◌}
use Rattle.std.proofs.Common.{Ok, Err, refl, sym, ap, ◌∙◌, subst}
use Rattle.std.specs.BTreeMap.{is_at}
use Rattle.std.specs.BTreeSet.{replace_key}
use Rattle.std.specs.Cmp.{IsEquivalence, eq_by_cmp_equiv}
use Rattle.std.specs.List.Sorted.{IsStrictlySortedBy}
use Rattle.std.specs.Ordering.{eq_by_cmp, is_eq, match_ordering}
use Rattle.std.specs.Set.{remove_key}
use Rattle.std.specs.declared.cmp.Ordering.{Ordering}
use Rattle.std.specs.declared.cmp.Ordering.TheVariants.{Less, Equal, Greater}
use Rattle.rtr_base.specs.declared.action.Action.TheVariants.{Announce, Withdraw}
use Rattle.rtr_payload.specs.Payloads.{Payload}
use Rattle.data_memory.specs.Contents.{IsFit, announcing, unless_unfit}
use Rattle.data_memory.specs.Data.{IsData, changed, has_name, name_cmp, takes_place}
use Rattle.data_memory.specs.declared.change_error.ChangeError.{ChangeError}
use Rattle.data_memory.specs.declared.change_error.ChangeError.TheVariants.{Duplicate, Unknown}
use Rattle.data_memory.proofs.Changes.{announced_is, withdrawn_is}
use Rattle.data_memory.proofs.Merge.{same_names}
use Rattle.data_memory.proofs.Names.{absent, as_first, name_total}
use Rattle.list_lines.specs.PrivateFollowing.{Names}

laws : IsEquivalence (eq_by_cmp name_cmp)
laws = eq_by_cmp_equiv name_total

-- ---- announcements

either : (a b c : Bool) → (a || cond b true c) ≡ cond b true (a || c)
either true true c = refl
either true false c = refl
either false b c = refl

-- x is of the name of p
as_named : (n m c : Bool) → n ≡ m → (n || c) ≡ cond n true (m || c)
as_named true m c e = refl
as_named false m c e = ap (λ b. b || c) e

first_named : (n c : Bool) → (n || c) ≡ cond n true c
first_named true c = refl
first_named false c = refl

named_at : (p q x : Payload) (d : List Payload) →
    has_name (replace_key name_cmp d p) q ≡ cond (is_eq (name_cmp p q)) true (has_name d q) →
    (o : Ordering) → name_cmp p x ≡ o →
    has_name (match_ordering o (p ∷ x ∷ d) (p ∷ d) (x ∷ replace_key name_cmp d p)) q ≡
    cond (is_eq (name_cmp p q)) true (has_name (x ∷ d) q)
named_at p q x d ih Less e =
    ap (λ b. b || has_name (x ∷ d) q) (laws.symm q p)
    ∙ first_named (is_eq (name_cmp p q)) (has_name (x ∷ d) q)
named_at p q x d ih Equal e =
    ap (λ b. b || has_name d q) (laws.symm q p)
    ∙ as_named (is_eq (name_cmp p q)) (is_eq (name_cmp q x)) (has_name d q)
    (laws.congr p x q (ap is_eq e) ∙ laws.symm x q)
named_at p q x d ih Greater e =
    ap (λ b. is_eq (name_cmp q x) || b) ih
    ∙ either (is_eq (name_cmp q x)) (is_eq (name_cmp p q)) (has_name d q)

replaced_names : (p q : Payload) (d : List Payload) →
    has_name (replace_key name_cmp d p) q ≡ cond (is_eq (name_cmp p q)) true (has_name d q)
replaced_names p q [] =
    ap (λ b. b || false) (laws.symm q p) ∙ first_named (is_eq (name_cmp p q)) false
replaced_names p q (x ∷ d) = named_at p q x d (replaced_names p q d) (name_cmp p x) refl

-- a fit payload is announced as if nothing were unfit
fit_changed : (p : Payload) (d : List Payload) → IsFit p →
    announcing p d ≡ changed Announce p d
fit_changed p d h = ap (λ o. unless_unfit o (changed Announce p d)) h

pub announced_names : (p : Payload) (d e : List Payload) → IsFit p → announcing p d ≡ Ok e →
    Names d e p true
announced_names p d e h is =
    λ q. ap (λ l. has_name l q)
    (sym (announced_is p d e (sym (fit_changed p d h) ∙ is))) ∙ replaced_names p q d

-- one of its name is replaced, if there is one
only_replaced : (there takes : Bool) (x e : List Payload) →
    cond (there && not takes) (Err Duplicate) (Ok x) ≡ Ok e → (takes && there) ≡ there
only_replaced true true x e h = refl
only_replaced true false x e h = absurd cc
only_replaced false true x e h = refl
only_replaced false false x e h = refl

pub replaced_there : (p : Payload) (d e : List Payload) → IsFit p → announcing p d ≡ Ok e →
    (takes_place p && has_name d p) ≡ has_name d p
replaced_there p d e h is =
    only_replaced (has_name d p) (takes_place p) (replace_key name_cmp d p) e
    (sym (fit_changed p d h) ∙ is)

-- ---- refused announcements

refused_there : (there takes : Bool) (x : List Payload) (e : ChangeError) →
    cond (there && not takes) (Err Duplicate) (Ok x) ≡ Err e → there ≡ true
refused_there true takes x e h = refl
refused_there false takes x e h = absurd cc

refused_for : (there : Bool) (x : List Payload) (e : ChangeError) →
    cond there (Err Duplicate) (Ok x) ≡ Err e → e ≡ Duplicate
refused_for true x e h = cc
refused_for false x e h = absurd cc

pub duplicate_there : (p : Payload) (d : List Payload) (e : ChangeError) → IsFit p →
    announcing p d ≡ Err e → has_name d p ≡ true
duplicate_there p d e h is =
    refused_there (has_name d p) (takes_place p) (replace_key name_cmp d p) e
    (sym (fit_changed p d h) ∙ is)

-- what is fit is refused as a duplicate alone
pub duplicate_alone : (p : Payload) (d : List Payload) (e : ChangeError) → IsFit p →
    announcing p d ≡ Err e → e ≡ Duplicate
duplicate_alone p d e h is =
    refused_for (has_name d p && not (takes_place p)) (replace_key name_cmp d p) e
    (sym (fit_changed p d h) ∙ is)

stays_so : (n there : Bool) (v : Bool) → (n ≡ true → v ≡ there) → v ≡ cond n there v
stays_so true there v h = h refl
stays_so false there v h = refl

stays_there : (p : Payload) (d : List Payload) (there : Bool) → has_name d p ≡ there →
    Names d d p there
stays_there p d there h =
    λ q. stays_so (is_eq (name_cmp p q)) there (has_name d q) (λ n. sym (same_names d p q n) ∙ h)

pub duplicate_names : (p : Payload) (d e : List Payload) (error : ChangeError) → IsFit p →
    announcing p d ≡ Err error → e ≡ d → Names d e p true
duplicate_names p d e error h is same =
    subst (λ l. Names d l p true) (sym same)
    (stays_there p d true (duplicate_there p d error h is))

-- ---- withdrawals

nothing : (n : Bool) → false ≡ cond n false false
nothing true = refl
nothing false = refl

later : (n m c : Bool) → (n ≡ true → m ≡ false) → (m || cond n false c) ≡ cond n false (m || c)
later true m c h = ap (λ b. b || false) (h refl)
later false m c h = refl

gone : (n m c : Bool) → (n ≡ true → c ≡ false) → (n ≡ false → m ≡ false) →
    c ≡ cond n false (m || c)
gone true m c h k = h refl
gone false m c h k = sym (ap (λ b. b || c) (k refl))

-- q is of the name of p, and x isn't
other : (p q x : Payload) → is_eq (name_cmp p q) ≡ true → is_eq (name_cmp p x) ≡ false →
    is_eq (name_cmp q x) ≡ false
other p q x n m = sym (laws.congr p q x n) ∙ m

left_at : (p q x : Payload) (d : List Payload) → IsData (x ∷ d) →
    has_name (remove_key (is_at (name_cmp p)) d) q ≡
    cond (is_eq (name_cmp p q)) false (has_name d q) →
    (o : Ordering) → name_cmp p x ≡ o →
    has_name (cond (is_eq o) d (x ∷ remove_key (is_at (name_cmp p)) d)) q ≡
    cond (is_eq (name_cmp p q)) false (has_name (x ∷ d) q)
unfolding IsStrictlySortedBy
left_at p q x d (a, s) ih Less e =
    ap (λ b. is_eq (name_cmp q x) || b) ih
    ∙ later (is_eq (name_cmp p q)) (is_eq (name_cmp q x)) (has_name d q)
    (λ n. other p q x n (ap is_eq e))
left_at p q x d (a, s) ih Equal e =
    gone (is_eq (name_cmp p q)) (is_eq (name_cmp q x)) (has_name d q)
    (λ n. sym (same_names d p q n) ∙ absent p d (as_first p x e d a))
    (λ n. laws.symm q x ∙ sym (laws.congr p x q (ap is_eq e)) ∙ n)
left_at p q x d (a, s) ih Greater e =
    ap (λ b. is_eq (name_cmp q x) || b) ih
    ∙ later (is_eq (name_cmp p q)) (is_eq (name_cmp q x)) (has_name d q)
    (λ n. other p q x n (ap is_eq e))

left_names : (p q : Payload) (d : List Payload) → IsData d →
    has_name (remove_key (is_at (name_cmp p)) d) q ≡
    cond (is_eq (name_cmp p q)) false (has_name d q)
unfolding IsStrictlySortedBy
left_names p q [] s = nothing (is_eq (name_cmp p q))
left_names p q (x ∷ d) s = left_at p q x d s (left_names p q d s.1) (name_cmp p x) refl

pub withdrawn_names : (p : Payload) (d e : List Payload) → IsData d →
    changed Withdraw p d ≡ Ok e → Names d e p false
withdrawn_names p d e s is =
    λ q. ap (λ l. has_name l q) (sym (withdrawn_is p d e is)) ∙ left_names p q d s

unknown_there : (there : Bool) (x : List Payload) (e : ChangeError) →
    cond there (Ok x) (Err Unknown) ≡ Err e → there ≡ false
unknown_there true x e h = absurd cc
unknown_there false x e h = refl

pub unknown_names : (p : Payload) (d e : List Payload) (error : ChangeError) →
    changed Withdraw p d ≡ Err error → e ≡ d → Names d e p false
unknown_names p d e error is same =
    subst (λ l. Names d l p false) (sym same)
    (stays_there p d false
    (unknown_there (has_name d p) (remove_key (is_at (name_cmp p)) d) error is))
