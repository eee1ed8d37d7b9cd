-- What `{:02x}` writes of each byte is the hex text of the bytes.
use Rattle.std.proofs.Common.{◌≡◌, ℕ, zero, suc, ◌+◌, ◌/◌, ◌%◌, ◌<◌, ◌^◌, ◌-◌, ◌==◌, Bool, true}
use Rattle.std.proofs.Common.{false, ◌&&◌, inl, inr, List, [], ◌∷◌, ◌++◌, take, length, get_or}
use Rattle.std.proofs.Common.{slice_index, refl, sym, ap, ◌∙◌, arith}
use Rattle.std.proofs.lemmas.Bool.{and_parts, cases_lt, eqb-true}
use Rattle.std.proofs.lemmas.List.{take_more}
use Rattle.std.proofs.lemmas.Fmt.{hex_byte}
use Rattle.std.specs.Fmt.{digits, digit_glyph, padded_integral, format_spec}
use Rattle.hex.specs.Hex.{encode_with, encode_lower, lower_digits}

abbrev all_alike : ℕ → Bool
all_alike zero = true
all_alike (suc n) = (digit_glyph false n == slice_index lower_digits n) && all_alike n

alike_at : (n k : ℕ) → all_alike n ≡ true → k < n → digit_glyph false k ≡ slice_index lower_digits k
alike_at zero k h lt = absurd (omega arith)
alike_at (suc n) k h lt =
    let parts = and_parts (digit_glyph false n == slice_index lower_digits n) (all_alike n) h in
    elim (cases_lt k n) [
      | inl below ↦ alike_at n k parts.1 below
      | inr top ↦
          let e : k ≡ n = omega arith in
          rw e (eqb-true (digit_glyph false n) (slice_index lower_digits n) parts.0)
    ]

glyph : (d : ℕ) → d < 16 → digit_glyph false d ≡ slice_index lower_digits d
glyph d h = alike_at 16 d refl h

-- a byte more
encode_with-push : (t xs : List ℕ) (b : ℕ) →
    encode_with t (xs ++ b ∷ []) ≡
    encode_with t xs ++ (slice_index t (b / 16) ∷ slice_index t (b % 16) ∷ [])
unfolding encode_with
encode_with-push t [] b = refl
encode_with-push t (x ∷ xs) b =
    ap (λ l. slice_index t (x / 16) ∷ slice_index t (x % 16) ∷ l) (encode_with-push t xs b)

-- the two digits of a byte, as a format writes them
abbrev pub byte_text : ℕ → List ℕ
byte_text b = padded_integral (format_spec 32 0 4 2 (2 ^ 64 - 1)) false [] (digits 16 false b)

byte_text-digits : (b : ℕ) → b < 256 →
    byte_text b ≡ slice_index lower_digits (b / 16) ∷ slice_index lower_digits (b % 16) ∷ []
byte_text-digits b h =
    let high = glyph (b / 16) (omega arith) in
    let low = glyph (b % 16) (omega arith) in
    hex_byte false b h ∙ (λ i. high i ∷ low i ∷ [])

pub encode_more : (xs : List ℕ) (i : ℕ) → i < length xs → get_or xs i 0 < 256 →
    encode_lower (take i xs) ++ byte_text (get_or xs i 0) ≡ encode_lower (take (i + 1) xs)
encode_more xs i h byte =
    let digits = byte_text-digits (get_or xs i 0) byte in
    let more = take_more xs i 0 h in
    ap (λ l. encode_lower (take i xs) ++ l) digits
    ∙ sym (ap encode_lower more ∙ encode_with-push lower_digits (take i xs) (get_or xs i 0))
