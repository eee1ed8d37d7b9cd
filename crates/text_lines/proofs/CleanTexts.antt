-- Texts that a string of JSON holds as they are: addresses, hex and base64.
use Rattle.std.proofs.Common.{◌≡◌, ◌<◌, ◌+◌, ◌*◌, ◌/◌, ◌%◌, ℕ, zero, suc, Bool, true, false}
use Rattle.std.proofs.Common.{not, ◌&&◌, ◌==◌, nat_lt, List, [], ◌∷◌, ◌++◌, drop, take, codes}
use Rattle.std.proofs.Common.{All, refl, sym, arith, inl, inr, slice_index}
use Rattle.std.proofs.lemmas.Bool.Decides.{nat_tests}
use Rattle.std.proofs.lemmas.List.Elements.{All-nil, All-cons, All-append, All-head, All-tail}
use Rattle.std.specs.Net.Addr.{octets_of, segments_of}
use Rattle.std.specs.Net.Text.{ipv4_text, ipv6_text}
use Rattle.std.specs.Prelude.{bytes_eq}
use Rattle.std.proofs.NetLemmas.Alphabet.{IsDigitOrDot, IsHexOrColon, All-ipv4_text}
use Rattle.std.proofs.NetLemmas.Alphabet.{All-hex_groups_text}
use Rattle.std.proofs.NetLemmas.Texts.{AllSegments, AllSegments-drop}
use Rattle.base64.specs.Engines.{url_safe_no_pad}
use Rattle.base64.specs.GeneralPurpose.{encode_of}
use Rattle.base64.specs.Rfc4648.{encode_symbols}
use Rattle.base64.proofs.Tables.{all_below_at}
use Rattle.hex.specs.Hex.{encode_lower, encode_with, lower_digits}
use Rattle.json.specs.Print.{escape, escape_byte}
use Rattle.rtr_base.specs.Addresses.{Family, v4, v6}
use Rattle.rtr_base.specs.Bytes.{IsBytes, be}
use Rattle.rtr_base.specs.PlainTexts.{address_text}
use Rattle.rtr_base.proofs.Numbers.{IsBytes-be}

-- whether a string of JSON holds the byte as it is, and it is no control character
abbrev pub stays : ℕ → Bool
stays c = nat_lt 34 c && (nat_lt c 127 && not (c == 92))

abbrev pub IsClean : ℕ → Type 0
IsClean c = stays c ≡ true

byte_clean : (c : ℕ) → IsClean c → escape_byte c ≡ c ∷ []
unfolding escape_byte
byte_clean c h =
    let a : (c == 34) ≡ false = grind (arith, nat_tests) in
    let b : (c == 92) ≡ false = grind (arith, nat_tests) in
    let d : (c == 8) ≡ false = grind (arith, nat_tests) in
    let e : (c == 12) ≡ false = grind (arith, nat_tests) in
    let f : (c == 10) ≡ false = grind (arith, nat_tests) in
    let g : (c == 13) ≡ false = grind (arith, nat_tests) in
    let i : (c == 9) ≡ false = grind (arith, nat_tests) in
    let j : nat_lt c 32 ≡ false = grind (arith, nat_tests) in
    rw (a, b, d, e, f, g, i, j) refl

-- all bytes of the text are so, in a record so that antt reads the list off a goal
pub record Clean (xs : List ℕ) : Type 0 where
  pub all : All IsClean xs

none : Clean []
none = record { all = All-nil IsClean }

more : {x : ℕ} {xs : List ℕ} → IsClean x → Clean xs → Clean (x ∷ xs)
more {x} {xs} h k = record { all = All-cons IsClean x xs h k.all }

both : (xs ys : List ℕ) → Clean xs → Clean ys → Clean (xs ++ ys)
both xs ys h k = record { all = All-append IsClean xs ys h.all k.all }

clean_escape : (xs : List ℕ) → All IsClean xs → escape xs ≡ xs
clean_escape [] h = refl
clean_escape (x ∷ xs) h = λ i. byte_clean x (All-head IsClean x xs h) i
    ++ clean_escape xs (All-tail IsClean x xs h) i

-- ---- addresses

digit_or_dot : (c : ℕ) → IsDigitOrDot c → IsClean c
digit_or_dot c (inl r) = grind (arith, nat_tests)
digit_or_dot c (inr e) = rw e refl

hex_or_colon : (c : ℕ) → IsHexOrColon c → IsClean c
hex_or_colon c (inl r) = grind (arith, nat_tests)
hex_or_colon c (inr r) = grind (arith, nat_tests)

clean_ipv4 : (o : List ℕ) → IsBytes o → Clean (ipv4_text o)
clean_ipv4 o h =
    record { all = λ k d lt. digit_or_dot _ (All-ipv4_text o (λ i. h i) k d lt) }

segments_below : (bs : List ℕ) → IsBytes bs → AllSegments (segments_of bs)
segments_below [] h k = omega arith
segments_below (a ∷ []) h k = omega arith
segments_below (a ∷ b ∷ bs) h zero = omega (arith, h 0, h 1)
segments_below (a ∷ b ∷ bs) h (suc k) = segments_below bs (λ i. h (suc (suc i))) k

octets_below : (xs : List ℕ) → AllSegments xs → IsBytes (octets_of xs)
octets_below [] h k = omega arith
octets_below (s ∷ xs) h zero = omega (arith, h 0)
octets_below (s ∷ xs) h (suc zero) = omega arith
octets_below (s ∷ xs) h (suc (suc k)) = octets_below xs (λ i. h (suc i)) k

mapped_front : Clean (codes "::ffff:")
mapped_front =
    more refl (more refl (more refl (more refl (more refl (more refl (more refl none))))))

ipv6_at : (m : Bool) (s : List ℕ) →
    m ≡ bytes_eq (take 6 s) (0 ∷ 0 ∷ 0 ∷ 0 ∷ 0 ∷ 0xffff ∷ []) → AllSegments s →
    Clean (ipv6_text s)
unfolding ipv6_text
ipv6_at true s e h =
    rw (sym e) (both (codes "::ffff:") _ mapped_front
    (clean_ipv4 (octets_of (drop 6 s)) (octets_below _ (AllSegments-drop 6 s h))))
ipv6_at false s e h = rw (sym e) (record {
  all = λ k d lt. hex_or_colon _ (All-hex_groups_text s h k d lt);
})

pub clean_address : (f : Family) (a : ℕ) → Clean (address_text f a)
clean_address v4 a = clean_ipv4 (be a 4) (IsBytes-be a 4)
clean_address v6 a =
    ipv6_at _ (segments_of (be a 16)) refl (segments_below (be a 16) (IsBytes-be a 16))

pub address_escape : (f : Family) (a : ℕ) → escape (address_text f a) ≡ address_text f a
address_escape f a = clean_escape _ (clean_address f a).all

-- ---- hex

clean_digit : (d : ℕ) → d < 16 → IsClean (slice_index lower_digits d)
clean_digit d h = all_below_at (λ i. stays (slice_index lower_digits i)) 16 d refl h

clean_hex : (bs : List ℕ) → IsBytes bs → Clean (encode_lower bs)
unfolding encode_with
clean_hex [] h = none
clean_hex (b ∷ bs) h =
    more (clean_digit (b / 16) (omega (arith, h 0)))
    (more (clean_digit (b % 16) (omega arith)) (clean_hex bs (λ i. h (suc i))))

pub hex_escape : (bs : List ℕ) → IsBytes bs → escape (encode_lower bs) ≡ encode_lower bs
hex_escape bs h = clean_escape _ (clean_hex bs h).all

-- ---- base64

abbrev table : List ℕ
table = url_safe_no_pad.encode_table

clean_symbol : (d : ℕ) → d < 64 → IsClean (slice_index table d)
clean_symbol d h = all_below_at (λ i. stays (slice_index table i)) 64 d refl h

clean_symbols : (bs : List ℕ) → IsBytes bs → Clean (encode_symbols table bs)
unfolding encode_symbols
clean_symbols [] h = none
clean_symbols (a ∷ []) h =
    more (clean_symbol (a / 4) (omega (arith, h 0)))
    (more (clean_symbol (a % 4 * 16) (omega arith)) none)
clean_symbols (a ∷ b ∷ []) h =
    more (clean_symbol (a / 4) (omega (arith, h 0)))
    (more (clean_symbol (a % 4 * 16 + b / 16) (omega (arith, h 1)))
    (more (clean_symbol (b % 16 * 4) (omega arith)) none))
clean_symbols (a ∷ b ∷ c ∷ bs) h =
    more (clean_symbol (a / 4) (omega (arith, h 0)))
    (more (clean_symbol (a % 4 * 16 + b / 16) (omega (arith, h 1)))
    (more (clean_symbol (b % 16 * 4 + c / 64) (omega (arith, h 2)))
    (more (clean_symbol (c % 64) (omega arith))
    (clean_symbols bs (λ i. h (suc (suc (suc i))))))))

pub base64_escape : (bs : List ℕ) → IsBytes bs →
    escape (encode_of url_safe_no_pad bs) ≡ encode_of url_safe_no_pad bs
base64_escape bs h =
    clean_escape _ (both (encode_symbols table bs) [] (clean_symbols bs h) none).all
