-- What calls on the stores of a cache promise, of the stores that the struct stands for.
use Rattle.std.proofs.Common.{◌≡◌, ℕ, Bool, true, false, not, List, Option, Some, None, ap, refl}
use Rattle.std.proofs.Common.{subst, sym, ◌∙◌}
use Rattle.std.specs.Prelude.{Result, Ok, Err, IfOk, IfErr, ◌&&◌, ◌||◌, is_some}
use Rattle.data_history.specs.Stores.{after_call, after_taking_in, are_of_stores, numbers_of}
use Rattle.data_history.specs.declared.newer.Untaken.{Untaken}
use Rattle.data_history.specs.declared.stores.Stores.{Stores}
use Rattle.rtr_c.specs.declared.stores.RtrStores.{RtrStores}
use Rattle.rtr_c.specs.declared.stores_answer.RtrStoresAnswer.{RtrStoresAnswer}

-- the stores of a struct are the only ones
pub same_stores : (r : Result Stores ℕ) (m m' : Stores) → r ≡ Ok m → r ≡ Ok m' → m ≡ m'
same_stores r m m' e e' =
    subst (λ x. IfOk x (λ k. m ≡ k)) e' (subst (λ x. IfOk x (λ k. m ≡ k)) (sym e) refl)

-- or there are none
pub no_stores : (r : Result Stores ℕ) (m : Stores) (n : ℕ) → r ≡ Err n → r ≡ Ok m → ⊥
no_stores r m n e e' =
    subst (λ x. IfErr x (λ k. ⊥)) e (subst (λ x. IfErr x (λ k. ⊥)) (sym e') tt)

-- what holds after a call holds of what it left
pub left_by : (P : Stores → RtrStoresAnswer → RtrStores → (first second : List ℕ) → Type 0)
    (m m' : Stores) (a a' : RtrStoresAnswer) (p p' : RtrStores) (f f' s s' : List ℕ) → m ≡ m' →
    a' ≡ a → p' ≡ p → f' ≡ f → s' ≡ s → P m a p f s → P m' a' p' f' s'
left_by P m m' a a' p p' f f' s s' of answers stands first second h =
    subst (λ x. P x a' p' f' s') of
    (subst (λ x. P m x p' f' s') (sym answers)
    (subst (λ x. P m a x f' s') (sym stands)
    (subst (λ x. P m a p x s') (sym first)
    (subst (λ x. P m a p f x) (sym second) h))))

-- ---- stores after newer data

first_holds : (a b : Bool) → (a && b) ≡ true → a ≡ true
first_holds true b h = refl
first_holds false b h = h

or_true : (a : Bool) → (a || true) ≡ true
or_true true = refl
or_true false = refl

taking : (u : Option ℕ) (n : ℕ) (m : Stores) → (numbers_of m).unsaved ≡ u →
    are_of_stores (numbers_of m) ≡ true →
    are_of_stores (numbers_of (after_taking_in u n m)) ≡ true
taking None n m un h =
    let k = numbers_of m in
    (λ i. first_holds (not k.second || is_some k.served)
    (not (is_some k.unsaved) || not (is_some k.taken)) h i
    && (not (is_some (un i)) || not (is_some (Some n))))
taking (Some s) n m un h =
    let k = numbers_of m in
    (λ i. or_true (not (not k.second)) i && or_true (not (is_some k.unsaved)) i)

-- what a call leaves are stores
pub still_stores : (r : Result ℕ Untaken) (m m' : Stores) → m' ≡ after_call r m →
    are_of_stores (numbers_of m) ≡ true → are_of_stores (numbers_of m') ≡ true
still_stores (Ok n) m m' is h =
    ap (λ k. are_of_stores (numbers_of k)) is ∙ taking (numbers_of m).unsaved n m refl h
still_stores (Err why) m m' is h = ap (λ k. are_of_stores (numbers_of k)) is ∙ h
