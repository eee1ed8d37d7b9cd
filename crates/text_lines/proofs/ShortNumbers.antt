-- Numbers of one, two and three digits.
use Rattle.std.proofs.Common.{◌≡◌, ℕ, ◌+◌, ◌/◌, ◌%◌, ◌<◌, ◌≤◌, ◌++◌, ◌∷◌, [], ap, ◌∙◌, arith}
use Rattle.std.proofs.Common.{decimal}
use Rattle.std.proofs.lemmas.Fmt.{decimal_digit, decimal_step}

pub two_digits : (n : ℕ) → 10 ≤ n → n < 100 →
    decimal n ≡ (48 + n / 10) ∷ (48 + n % 10) ∷ []
two_digits n least most =
    decimal_step n least (omega (arith, most))
    ∙ ap (λ l. l ++ (48 + n % 10) ∷ []) (decimal_digit (n / 10) (omega (arith, most)))

pub three_digits : (n : ℕ) → 100 ≤ n → n < 1000 →
    decimal n ≡ (48 + n / 100) ∷ (48 + n / 10 % 10) ∷ (48 + n % 10) ∷ []
three_digits n least most =
    decimal_step n (omega (arith, least)) (omega (arith, most))
    ∙ ap (λ l. l ++ (48 + n % 10) ∷ [])
    (two_digits (n / 10) (omega (arith, least)) (omega (arith, most))
    ∙ ap (λ d. (48 + d) ∷ (48 + n / 10 % 10) ∷ []) (omega arith))
