-- Texts without bytes above those that ASCII prints.
use Rattle.std.proofs.Common.{◌≡◌, ℕ, zero, suc, ◌<◌, ◌/◌, ◌%◌, ◌==◌, ◌&&◌, Bool, true, false}
use Rattle.std.proofs.Common.{List, [], ◌∷◌, ◌++◌, refl, arith, nat_lt, slice_index, decimal}
use Rattle.std.specs.Prelude.{if◌then◌else◌}
use Rattle.std.specs.Fmt.{digit_glyph, digits, digits_onto}
use Rattle.std.specs.List.{All}
use Rattle.std.proofs.lemmas.Bool.Decides.{nat_tests}
use Rattle.std.proofs.lemmas.List.Elements.{All-nil, All-cons, All-append, All-head, All-tail}
use Rattle.hex.specs.Hex.{encode_lower, encode_with, lower_digits}

-- all bytes of the text are below 127, in a record so that antt reads the list off a goal
pub record IsPlain (text : List ℕ) : Type 0 where
  pub all : All (λ b. b < 127) text

pub plain_none : IsPlain []
plain_none = record { all = All-nil (λ b. b < 127) }

pub plain_more : {x : ℕ} {xs : List ℕ} → x < 127 → IsPlain xs → IsPlain (x ∷ xs)
plain_more {x} {xs} h k = record { all = All-cons (λ b. b < 127) x xs h k.all }

pub plain_both : {xs ys : List ℕ} → IsPlain xs → IsPlain ys → IsPlain (xs ++ ys)
plain_both {xs} {ys} h k = record { all = All-append (λ b. b < 127) xs ys h.all k.all }

pub plain_head : (x : ℕ) (xs : List ℕ) → IsPlain (x ∷ xs) → x < 127
plain_head x xs h = All-head (λ b. b < 127) x xs h.all

pub plain_tail : (x : ℕ) (xs : List ℕ) → IsPlain (x ∷ xs) → IsPlain xs
plain_tail x xs h = record { all = All-tail (λ b. b < 127) x xs h.all }

-- ---- by trying each byte

abbrev pub all_plain : List ℕ → Bool
all_plain [] = true
all_plain (x ∷ xs) = nat_lt x 127 && all_plain xs

and_first : (a b : Bool) → a && b ≡ true → a ≡ true
and_first true b e = refl
and_first false b e = e

and_rest : (a b : Bool) → a && b ≡ true → b ≡ true
and_rest true b e = e
and_rest false true e = refl
and_rest false false e = e

below : (x : ℕ) → nat_lt x 127 ≡ true → x < 127
below x e = grind (arith, nat_tests)

pub plain_by : (xs : List ℕ) → all_plain xs ≡ true → IsPlain xs
plain_by [] e = plain_none
plain_by (x ∷ xs) e =
    plain_more (below x (and_first (nat_lt x 127) _ e))
    (plain_by xs (and_rest (nat_lt x 127) _ e))

-- ---- numbers

glyph_plain : (d : ℕ) → d < 10 → digit_glyph false d < 127
glyph_plain d h = let e : nat_lt d 10 ≡ true = grind (arith, nat_tests) in rw e (omega (arith, h))

onto_plain : (k n : ℕ) (acc : List ℕ) → IsPlain acc → IsPlain (digits_onto k 10 false n acc)
onto_plain zero n acc h = h
onto_plain (suc k) n acc h = elim (n / 10 == 0) as
    (λ stop. IsPlain (if stop then digit_glyph false (n % 10) ∷ acc
    else digits_onto k 10 false (n / 10) (digit_glyph false (n % 10) ∷ acc))) [
      | true ↦ plain_more (glyph_plain (n % 10) (omega arith)) h
      | false ↦ onto_plain k (n / 10) _ (plain_more (glyph_plain (n % 10) (omega arith)) h)
    ]

pub plain_decimal : (n : ℕ) → IsPlain (decimal n)
unfolding digits
plain_decimal n = onto_plain 64 n [] plain_none

-- ---- hex

-- a symbol of a table, or 0 past its end
pub plain_symbol : (t : List ℕ) (k : ℕ) → IsPlain t → slice_index t k < 127
plain_symbol [] k h = omega arith
plain_symbol (x ∷ t) zero h = plain_head x t h
plain_symbol (x ∷ t) (suc k) h = plain_symbol t k (plain_tail x t h)

digit_plain : (k : ℕ) → slice_index lower_digits k < 127
digit_plain k = plain_symbol lower_digits k (plain_by lower_digits refl)

pub plain_hex : (bs : List ℕ) → IsPlain (encode_lower bs)
unfolding encode_with
plain_hex [] = plain_none
plain_hex (b ∷ bs) =
    plain_more (digit_plain (b / 16)) (plain_more (digit_plain (b % 16)) (plain_hex bs))
