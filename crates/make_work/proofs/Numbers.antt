-- The numbers that std reads are those that words mean.
use Rattle.std.proofs.Common.{◌≡◌, ℕ, ◌<◌, ◌^◌, Bool, true, false, ◌&&◌, nat_lt, cond, length}
use Rattle.std.proofs.Common.{List, [], ◌∷◌, Some, None, Ok, Err, refl, sym, ap, ◌∙◌}
use Rattle.std.proofs.lemmas.Bool.{and_parts, lt-ltb, ltb-true}
use Rattle.std.specs.Char.{is_digit, digit_value}
use Rattle.std.specs.Str.Parse.{AllDigits, IsNumeral, ParsesUnsigned, digits_value}
use Rattle.std.specs.Str.Parse.{without_leading_plus}
use Rattle.make_work.specs.MakeWords.{all_digits, is_decimal, number_of}

both : (a b : Bool) → a ≡ true → b ≡ true → (a && b) ≡ true
both true true e f = refl
both true false e f = f
both false b e f = e

tested : (ds : List ℕ) → AllDigits 10 ds → all_digits ds ≡ true
tested [] h = refl
tested (c ∷ cs) h =
    both (is_digit c 10) (all_digits cs) (lt-ltb (digit_value c) 10 h.0) (tested cs h.1)

told : (ds : List ℕ) → all_digits ds ≡ true → AllDigits 10 ds
told [] h = tt
told (c ∷ cs) h =
    let p = and_parts (is_digit c 10) (all_digits cs) h in
    (ltb-true (digit_value c) 10 p.0, told cs p.1)

-- whether digits are a number of so many bits
abbrev fits : ℕ → List ℕ → Bool
fits bits ds = is_decimal ds && nat_lt (digits_value 10 ds) (2 ^ bits)

fits_yes : (bits : ℕ) (ds : List ℕ) → IsNumeral 10 ds → digits_value 10 ds < 2 ^ bits →
    fits bits ds ≡ true
fits_yes bits ds n small =
    both (is_decimal ds) _
    (both (nat_lt 0 (length ds)) (all_digits ds) (lt-ltb 0 (length ds) n.0) (tested ds n.1))
    (lt-ltb (digits_value 10 ds) (2 ^ bits) small)

fits_so : (bits : ℕ) (ds : List ℕ) → fits bits ds ≡ true →
    IsNumeral 10 ds × (digits_value 10 ds < 2 ^ bits)
fits_so bits ds h =
    let p = and_parts (is_decimal ds) (nat_lt (digits_value 10 ds) (2 ^ bits)) h in
    let q = and_parts (nat_lt 0 (length ds)) (all_digits ds) p.0 in (
      (ltb-true 0 (length ds) q.0, told ds q.1),
      ltb-true (digits_value 10 ds) (2 ^ bits) p.1,
    )

refuted : (b : Bool) (x : ℕ) → (b ≡ true → ⊥) → None ≡ cond b (Some x) None
refuted true x h = absurd (h refl)
refuted false x h = refl

pub number_read : (bits : ℕ) (text : List ℕ) (n : ℕ) →
    ParsesUnsigned {E = Unit {0}} bits 10 text (Ok n) → Some n ≡ number_of bits text
number_read bits text n h =
    let ds : List ℕ = without_leading_plus text in
    ap Some h.1
    ∙ ap (λ b. cond b (Some (digits_value 10 ds)) None) (sym (fits_yes bits ds h.0.0 h.0.1))

pub no_number : (bits : ℕ) (text : List ℕ) →
    ParsesUnsigned {E = Unit {0}} bits 10 text (Err (tt {0})) → None ≡ number_of bits text
no_number bits text h =
    let ds : List ℕ = without_leading_plus text in
    refuted (fits bits ds) (digits_value 10 ds) (λ e. h (fits_so bits ds e))
