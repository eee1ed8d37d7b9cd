-- What stops and starts make of a member, by the numbers of members that ran and that run.
use Rattle.std.proofs.Common.{◌≡◌, ◌≢◌, ℕ, true, false, ◌<◌, ◌≤◌, ◌⊎◌, inl, inr, arith}
use Rattle.std.proofs.Common.{Some, None, refl}
use Rattle.std.specs.Prelude.{nat_lt, ◌==◌}
use Rattle.std.proofs.lemmas.Bool.{cases_lt}
use Rattle.std.proofs.lemmas.Bool.Decides.{nat_tests}
use Rattle.session_group.specs.Groups.{if_less}
use Rattle.session_group.specs.Runs.{Member, begun, left, once_started, once_stopped}

pub yes : (a b : ℕ) → a < b → nat_lt a b ≡ true
yes a b p = grind (arith, nat_tests)

pub no_less : (a b : ℕ) → b ≤ a → nat_lt a b ≡ false
no_less a b p = grind (arith, nat_tests)

pub same_number : (a b : ℕ) → a ≡ b → (a == b) ≡ true
same_number a b p = grind (arith, nat_tests)

pub other_number : (a b : ℕ) → a ≢ b → (a == b) ≡ false
other_number a b p = grind (arith, nat_tests)

pub less : (a b : ℕ) → a < b → if_less a b ≡ Some a
less a b p = rw (yes a b p) refl

pub not_less : (a b : ℕ) → b ≤ a → if_less a b ≡ None
not_less a b p = rw (no_less a b p) refl

abbrev pub placed : {D : Type 0} → (now : ℕ) → ℕ → ℕ → ℕ → Member D → Member D
placed n r r' i x = once_started n (if_less r r') i (once_stopped (if_less r' r) i x)

below : (a b : ℕ) → a < b → a ≤ b
below a b p = omega arith

apart : (a b : ℕ) → a < b → a ≢ b
apart a b p e = absurd (bad a b p e)
  where
    bad : (a b : ℕ) → a < b → a ≡ b → ⊥
    bad a b p e = omega arith

apart_above : (a b : ℕ) → b < a → a ≢ b
apart_above a b p e = absurd (bad a b p e)
  where
    bad : (a b : ℕ) → b < a → a ≡ b → ⊥
    bad a b p e = omega arith

pub stays :
    {D : Type 0} (n r r' i : ℕ) (x : Member D) → i < r' → i < r → placed n r r' i x ≡ x
stays {D = D} n r r' i x p q = go (cases_lt r' r) (cases_lt r r')
  where
    go : (r' < r) ⊎ (r ≤ r') → (r < r') ⊎ (r' ≤ r) → placed n r r' i x ≡ x
    go (inl s) t = rw (not_less r r' (below r' r s)) (rw (less r' r s) (rw (yes i r' p) refl))
    go (inr s) (inr t) = rw (not_less r r' t) (rw (not_less r' r s) refl)
    go (inr s) (inl t) =
        rw (less r r' t) (rw (not_less r' r s) (rw (other_number i r (apart i r q)) refl))

pub gone :
    {D : Type 0} (n r r' i : ℕ) (x : Member D) → r' ≤ i → (r ≤ i → x ≡ left)
    → placed n r r' i x ≡ left
gone {D = D} n r r' i x p q = go (cases_lt r' r) (cases_lt r r')
  where
    from : (a b c : ℕ) → a ≤ b → b ≤ c → a ≤ c
    from a b c p q = omega arith

    past : (a b c : ℕ) → a < b → b ≤ c → a < c
    past a b c p q = omega arith

    go : (r' < r) ⊎ (r ≤ r') → (r < r') ⊎ (r' ≤ r) → placed n r r' i x ≡ left
    go (inl s) t = rw (not_less r r' (below r' r s)) (rw (less r' r s) (rw (no_less i r' p) refl))
    go (inr s) (inr t) = rw (not_less r r' t) (rw (not_less r' r s) (q (from r r' i s p)))
    go (inr s) (inl t) =
        rw (less r r' t) (rw (not_less r' r s)
        (rw (other_number i r (apart_above i r (past r r' i t p))) (q (from r r' i s p))))

pub begins :
    {D : Type 0} (n r r' i : ℕ) (x : Member D) → r < r' → i ≡ r → placed n r r' i x ≡ begun n
begins n r r' i x p e =
    rw (less r r' p) (rw (not_less r' r (below r r' p)) (rw (same_number i r e) refl))
