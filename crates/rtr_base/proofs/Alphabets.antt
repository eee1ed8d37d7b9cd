-- The texts of addresses and prefixes have neither slash nor dash where none is wanted.
use Rattle.std.proofs.Common.{◌≢◌, ℕ, suc, zero, ◌^◌, ◌<◌, List, [], ◌∷◌, ◌++◌, get_or, drop, take}
use Rattle.std.proofs.Common.{codes, decimal, bytes_eq, All, arith, inl, inr}
use Rattle.std.proofs.lemmas.Bool.{cond_both}
use Rattle.std.proofs.lemmas.List.Elements.{All-nil, All-cons, All-append, All-weaker}
use Rattle.std.proofs.lemmas.List.Elements.{All-from_get_or}
use Rattle.std.proofs.lemmas.Fmt.{decimal_is_IsNumeral}
use Rattle.std.proofs.lemmas.Str.Parse.{digit_at}
use Rattle.std.specs.Net.Addr.{octets_of, segments_of}
use Rattle.std.specs.Net.Text.{ipv4_text, ipv6_text}
use Rattle.std.proofs.NetLemmas.Alphabet.{IsDigitOrDot, IsHexOrColon, All-ipv4_text}
use Rattle.std.proofs.NetLemmas.Alphabet.{All-hex_groups_text}
use Rattle.rtr_base.specs.Addresses.{Family, v4, v6}
use Rattle.rtr_base.specs.Bytes.{be, IsBytes}
use Rattle.rtr_base.specs.PlainTexts.{address_text}
use Rattle.rtr_base.proofs.Numbers.{IsBytes-be}

-- neither a dash nor a slash
pub record IsPlain (c : ℕ) : Type 0 where
  pub dash : c ≢ 45
  pub slash : c ≢ 47

from_digit_or_dot : (c : ℕ) → IsDigitOrDot c → IsPlain c
from_digit_or_dot c (inl digit) =
    record { dash = λ e. omega (arith, e, digit); slash = λ e. omega (arith, e, digit) }
from_digit_or_dot c (inr dot) =
    record { dash = λ e. omega (arith, e, dot); slash = λ e. omega (arith, e, dot) }

from_hex_or_colon : (c : ℕ) → IsHexOrColon c → IsPlain c
from_hex_or_colon c (inl low) =
    record { dash = λ e. omega (arith, e, low); slash = λ e. omega (arith, e, low) }
from_hex_or_colon c (inr high) =
    record { dash = λ e. omega (arith, e, high); slash = λ e. omega (arith, e, high) }

pub plain_decimal : (n : ℕ) → n < 2 ^ 64 → All IsPlain (decimal n)
plain_decimal n fits =
    All-from_get_or IsPlain (decimal n) 0
    (λ i h.
    from_digit_or_dot (get_or (decimal n) i 0)
    (inl (digit_at (decimal n) i (decimal_is_IsNumeral n fits).0.1 h)))

plain_ipv4 : (o : List ℕ) → IsBytes o → All IsPlain (ipv4_text o)
plain_ipv4 o h = All-weaker IsDigitOrDot IsPlain from_digit_or_dot (ipv4_text o) (All-ipv4_text o h)

IsBytes-octets_of : (xs : List ℕ) → ((k : ℕ) → get_or xs k 0 < 2 ^ 16) → IsBytes (octets_of xs)
IsBytes-octets_of [] h k = omega arith
IsBytes-octets_of (x ∷ xs) h zero = let small = h 0 in omega (arith, small)
IsBytes-octets_of (x ∷ xs) h (suc zero) = omega arith
IsBytes-octets_of (x ∷ xs) h (suc (suc k)) = IsBytes-octets_of xs (λ j. h (suc j)) k

segments_small-drop : (n : ℕ) (xs : List ℕ) → ((k : ℕ) → get_or xs k 0 < 2 ^ 16) → (k : ℕ) →
    get_or (drop n xs) k 0 < 2 ^ 16
segments_small-drop zero xs h k = h k
segments_small-drop (suc n) [] h k = omega arith
segments_small-drop (suc n) (x ∷ xs) h k = segments_small-drop n xs (λ j. h (suc j)) k

plain_colons : All IsPlain (codes "::ffff:")
plain_colons =
    let colon : IsPlain 58 = from_hex_or_colon 58 (inl (omega arith)) in
    let f : IsPlain 102 = from_hex_or_colon 102 (inr (omega arith)) in
    let last = All-cons IsPlain 58 [] colon (All-nil IsPlain) in
    let one = All-cons IsPlain 102 (58 ∷ []) f last in
    let two = All-cons IsPlain 102 (102 ∷ 58 ∷ []) f one in
    let three = All-cons IsPlain 102 (102 ∷ 102 ∷ 58 ∷ []) f two in
    let four = All-cons IsPlain 102 (102 ∷ 102 ∷ 102 ∷ 58 ∷ []) f three in
    All-cons IsPlain 58 (58 ∷ 102 ∷ 102 ∷ 102 ∷ 102 ∷ 58 ∷ []) colon
    (All-cons IsPlain 58 (102 ∷ 102 ∷ 102 ∷ 102 ∷ 58 ∷ []) colon four)

plain_ipv6 : (xs : List ℕ) → ((k : ℕ) → get_or xs k 0 < 2 ^ 16) → All IsPlain (ipv6_text xs)
unfolding ipv6_text
plain_ipv6 xs h =
    let mapped =
    All-append IsPlain (codes "::ffff:") (ipv4_text (octets_of (drop 6 xs))) plain_colons
    (plain_ipv4 (octets_of (drop 6 xs))
    (IsBytes-octets_of (drop 6 xs) (segments_small-drop 6 xs h))) in
    cond_both (bytes_eq (take 6 xs) (0 ∷ 0 ∷ 0 ∷ 0 ∷ 0 ∷ 65535 ∷ []))
    (codes "::ffff:" ++ ipv4_text (octets_of (drop 6 xs))) _ (All IsPlain) (λ _. mapped)
    (λ _. All-weaker IsHexOrColon IsPlain from_hex_or_colon _ (All-hex_groups_text xs h))

-- two bytes make a segment of 16 bits
pub segments_small : (bs : List ℕ) → IsBytes bs → (k : ℕ) → get_or (segments_of bs) k 0 < 2 ^ 16
segments_small [] h k = omega arith
segments_small (a ∷ []) h k = omega arith
segments_small (a ∷ b ∷ bs) h zero = let high = h 0 in let low = h 1 in omega (arith, high, low)
segments_small (a ∷ b ∷ bs) h (suc k) = segments_small bs (λ j. h (suc (suc j))) k

pub plain_address : (f : Family) (a : ℕ) → All IsPlain (address_text f a)
plain_address v4 a = plain_ipv4 (be a 4) (IsBytes-be a 4)
plain_address v6 a = plain_ipv6 (segments_of (be a 16)) (segments_small (be a 16) (IsBytes-be a 16))
