-- What is left of a name of which some was compared.
use Rattle.std.proofs.Common.{◌≡◌, ℕ, ◌+◌, ◌<◌, ◌≤◌, ◌==◌, ◌&&◌, Bool, true, false, cond, suc}
use Rattle.std.proofs.Common.{List, [], ◌∷◌, length, drop, get_or, bytes_eq, refl, sym, ap, ◌∙◌}
use Rattle.std.proofs.Common.{arith, Option, Some, None, drop-cons}
use Rattle.std.proofs.Math.ListN.{drop_of_length-le}
use Rattle.std.proofs.lemmas.Bool.Decides.{nat_tests}
use Rattle.std.specs.Char.{to_ascii_lowercase}
use Rattle.make_work.specs.JsonNames.{is_joiner, plain}
use Rattle.make_work.specs.PrivateJson.{after_byte}

-- a name that begins with this byte
plain_more : (c : ℕ) (cs : List ℕ) (b : Bool) → is_joiner c ≡ b →
    plain (c ∷ cs) ≡ cond b (plain cs) (to_ascii_lowercase c ∷ plain cs)
unfolding plain
plain_more c cs b e = ap (λ k. cond k (plain cs) (to_ascii_lowercase c ∷ plain cs)) e

plain_none : plain [] ≡ []
unfolding plain
plain_none = refl

-- whether the bytes that are left, if any are, are these
abbrev rest_is : Option (List ℕ) → List ℕ → Bool
rest_is None xs = false
rest_is (Some rest) xs = bytes_eq rest xs

by_test : (b : Bool) (ys xs : List ℕ) →
    (b && bytes_eq ys xs) ≡ rest_is (cond b (Some ys) None) xs
by_test true ys xs = refl
by_test false ys xs = refl

by_taken : (left : List ℕ) (x : ℕ) (xs : List ℕ) →
    bytes_eq left (x ∷ xs) ≡ rest_is (after_byte left x) xs
by_taken [] x xs = refl
by_taken (y ∷ ys) x xs = by_test (y == x) ys xs

none_left : (left : List ℕ) → (length left == 0) ≡ bytes_eq left []
none_left [] = refl
none_left (y ∷ ys) = grind (arith, nat_tests)

-- what is left of the known name is compared with the rest of the name
pub record NameSoFar (known name : List ℕ) (i : ℕ) (left : List ℕ) : Type 0 where
  pub same : bytes_eq known (plain name) ≡ bytes_eq left (plain (drop i name))

module _ (known name : List ℕ) where
  pub starts : NameSoFar known name 0 known
  starts = record { same = refl }

  module _ (i c : ℕ) (left : List ℕ) (small : i < length name) (is : c ≡ get_or name i 0)
      (s : NameSoFar known name i left) where
    here : drop i name ≡ c ∷ drop (i + 1) name
    here =
        let next : suc i ≡ i + 1 = omega arith in
        drop-cons name i 0 small ∙ ap (λ d. d ∷ drop (suc i) name) (sym is)
        ∙ ap (λ j. c ∷ drop j name) next

    now : (b : Bool) → is_joiner c ≡ b → bytes_eq known (plain name)
        ≡ bytes_eq left (cond b (plain (drop (i + 1) name))
        (to_ascii_lowercase c ∷ plain (drop (i + 1) name)))
    now b e =
        s.same ∙ ap (λ l. bytes_eq left (plain l)) here
        ∙ ap (bytes_eq left) (plain_more c (drop (i + 1) name) b e)

    pub joined : is_joiner c ≡ true → NameSoFar known name (i + 1) left
    joined e = record { same = now true e }

    compared : (o : Option (List ℕ)) → is_joiner c ≡ false →
        after_byte left (to_ascii_lowercase c) ≡ o →
        bytes_eq known (plain name) ≡ rest_is o (plain (drop (i + 1) name))
    compared o e f =
        now false e ∙ by_taken left (to_ascii_lowercase c) (plain (drop (i + 1) name))
        ∙ ap (λ p. rest_is p (plain (drop (i + 1) name))) f

    pub went_on : (rest : List ℕ) → is_joiner c ≡ false →
        after_byte left (to_ascii_lowercase c) ≡ Some rest → NameSoFar known name (i + 1) rest
    went_on rest e f = record { same = compared (Some rest) e f }

    pub differs : is_joiner c ≡ false → after_byte left (to_ascii_lowercase c) ≡ None →
        false ≡ bytes_eq known (plain name)
    differs e f = sym (compared None e f)

  pub ended : (i : ℕ) (left : List ℕ) → length name ≤ i → NameSoFar known name i left →
      (length left == 0) ≡ bytes_eq known (plain name)
  ended i left large s =
      none_left left ∙ ap (bytes_eq left) (sym plain_none)
      ∙ ap (λ l. bytes_eq left (plain l)) (sym (drop_of_length-le name large)) ∙ sym s.same
