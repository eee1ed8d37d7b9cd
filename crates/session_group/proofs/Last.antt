-- The last member of some.
use Rattle.std.proofs.Common.{◌≡◌, ℕ, zero, suc, Bool, true, false, ◌+◌, ◌<◌, arith, refl}
use Rattle.std.proofs.Common.{ap, Some, None, if◌then◌else◌, ◌∙◌, subst, ◌≢◌, ◌⊎◌, inl, inr}
use Rattle.std.proofs.lemmas.Bool.{cases_eq}
use Rattle.session_group.specs.Groups.{last}

next : (n : ℕ) → n + 1 ≡ suc n
next n = omega arith

at_next :
    (holds : ℕ → Bool) (n : ℕ) → last holds (n + 1) ≡ (if holds n then Some n else last holds n)
unfolding last
at_next holds n = ap (last holds) (next n)

pub not_here :
    (holds : ℕ → Bool) (n : ℕ) → holds n ≡ false → last holds (n + 1) ≡ last holds n
not_here holds n p = rw (at_next holds n) (rw p refl)

pub here : (holds : ℕ → Bool) (n : ℕ) → holds n ≡ true → last holds (n + 1) ≡ Some n
here holds n p = rw (at_next holds n) (rw p refl)

pub none_at_0 : (holds : ℕ → Bool) → last holds 0 ≡ None
unfolding last
none_at_0 holds = refl

-- ---- what it says of the members

under : (i n : ℕ) → i < suc n → i ≢ n → i < n
under i n p q = grind arith

pub last_none :
    (holds : ℕ → Bool) (n : ℕ) → last holds n ≡ None → (i : ℕ) → i < n → holds i ≡ false
unfolding last
last_none holds zero p i q = absurd (none i q)
  where
    none : (i : ℕ) → i < 0 → ⊥
    none i q = omega arith
last_none holds (suc n) p i q =
    go (λ e r. last_none holds n e i r) (holds n) refl p (cases_eq i n)
  where
    go : (last holds n ≡ None → i < n → holds i ≡ false)
        → (b : Bool) → holds n ≡ b
        → (if b then Some n else last holds n) ≡ None → (i ≡ n) ⊎ (i ≢ n) → holds i ≡ false
    go more true f p r = grind arith
    go more false f p (inl r) = ap holds r ∙ f
    go more false f p (inr r) = more p (under i n q r)

pub record IsLast (holds : ℕ → Bool) (n k : ℕ) : Type 0 where
  pub low : k < n
  pub does : holds k ≡ true
  pub none_after : (i : ℕ) → i < n → k < i → holds i ≡ false

pub last_some : (holds : ℕ → Bool) (n k : ℕ) → last holds n ≡ Some k → IsLast holds n k
unfolding last
last_some holds zero k p = grind arith
last_some holds (suc n) k p =
    go (λ e. last_some holds n k e) (holds n) refl p
  where
    wider : (k n : ℕ) → k < n → k < suc n
    wider k n p = omega arith

    next_up : (n : ℕ) → n < suc n
    next_up n = omega arith

    inside : (n k : ℕ) → Some n ≡ Some k → n ≡ k
    inside n k p = grind arith

    beyond : (i n : ℕ) → i < suc n → n < i → ⊥
    beyond i n p q = omega arith

    go : (last holds n ≡ Some k → IsLast holds n k)
        → (b : Bool) → holds n ≡ b
        → (if b then Some n else last holds n) ≡ Some k → IsLast holds (suc n) k
    go more true f p = subst (λ j. IsLast holds (suc n) j) (inside n k p)
        (record { low = next_up n; does = f; none_after = λ i q r. absurd (beyond i n q r) })
    go more false f p =
        let r : IsLast holds n k = more p in
        record {
          low = wider k n r.low;
          does = r.does;
          none_after = λ i q s. rest r i s q (cases_eq i n);
        }
      where
        rest : IsLast holds n k → (i : ℕ) → k < i → i < suc n → (i ≡ n) ⊎ (i ≢ n) → holds i ≡ false
        rest r i s q (inl t) = ap holds t ∙ f
        rest r i s q (inr t) = r.none_after i (under i n q t) s

pub last_same :
    (f h : ℕ → Bool) (n : ℕ) → ((i : ℕ) → i < n → f i ≡ h i) → last f n ≡ last h n
unfolding last
last_same f h zero p = refl
last_same f h (suc n) p =
    rw (p n (next n)) (rw (last_same f h n (λ i q. p i (wider i n q))) refl)
  where
    wider : (k n : ℕ) → k < n → k < suc n
    wider k n p = omega arith

    next : (n : ℕ) → n < suc n
    next n = omega arith
