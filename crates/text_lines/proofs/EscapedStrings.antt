-- What stands in a string of JSON, with escapes for control characters.
use Rattle.std.proofs.Common.{◌≡◌, ℕ, ◌<◌, ◌≤◌, ◌==◌, true, false, List, [], ◌∷◌, ◌++◌}
use Rattle.std.proofs.Common.{refl, sym, ap, ◌∙◌, arith, slice_index, nat_lt, length, drop, take}
use Rattle.std.proofs.Common.{append-nil, inl, inr}
use Rattle.std.specs.Prelude.{if◌then◌else◌}
use Rattle.std.proofs.lemmas.Bool.{cases_lt}
use Rattle.std.proofs.lemmas.Bool.Decides.{nat_tests}
use Rattle.base64.proofs.Tables.{all_below_at}
use Rattle.json.specs.Print.{escape, escape_byte}
use Rattle.text_lines.specs.ControlEscapes.{escaped, byte_form, is_control_pair, unicode_escape}
use Rattle.text_lines.specs.PrivateStrings.{string_form}
use Rattle.text_lines.proofs.EscapedTexts.{before_plain, byte_first, byte_last, control_first}
use Rattle.text_lines.proofs.EscapedTexts.{none_escaped, plain_front}
use Rattle.text_lines.proofs.PlainTexts.{IsPlain, all_plain, plain_by, plain_head}

-- a byte that JSON lets stand
above_stays : (c : ℕ) → 127 ≤ c → escape_byte c ≡ c ∷ []
unfolding escape_byte
above_stays c h =
    let a : (c == 34) ≡ false = grind (arith, nat_tests) in
    let b : (c == 92) ≡ false = grind (arith, nat_tests) in
    let d : (c == 8) ≡ false = grind (arith, nat_tests) in
    let e : (c == 12) ≡ false = grind (arith, nat_tests) in
    let f : (c == 10) ≡ false = grind (arith, nat_tests) in
    let g : (c == 13) ≡ false = grind (arith, nat_tests) in
    let i : (c == 9) ≡ false = grind (arith, nat_tests) in
    let j : nat_lt c 32 ≡ false = grind (arith, nat_tests) in
    rw (a, b, d, e, f, g, i, j) refl

pub below_plain : (c : ℕ) → c < 127 → IsPlain (escape_byte c)
unfolding escape_byte
below_plain c h = plain_by _ (all_below_at (λ i. all_plain (escape_byte i)) 127 c refl h)

below_some : (c : ℕ) → c < 127 → nat_lt 0 (length (escape_byte c)) ≡ true
unfolding escape_byte
below_some c h = all_below_at (λ i. nat_lt 0 (length (escape_byte i))) 127 c refl h

-- one of U+0080 to U+009F at the front
control_string : (first : ℕ) (others : List ℕ) →
    true ≡ is_control_pair first (slice_index others 0) → 1 ≤ length others →
    unicode_escape (slice_index others 0) ++ escaped (escape (drop 1 others))
    ≡ escaped (escape (first ∷ others))
control_string first [] e h = absurd (omega (arith, h))
control_string first (second ∷ rest) e h =
    sym (
    ap (λ l. escaped (l ++ (escape_byte second ++ escape rest)))
    (above_stays first (grind (arith, nat_tests)))
    ∙ ap (λ l. escaped (first ∷ (l ++ escape rest))) (above_stays second (grind (arith, nat_tests)))
    ∙ control_first first second (escape rest) e)

pub control_front : (first : ℕ) (one rest others : List ℕ) → one ≡ take 1 others →
    rest ≡ drop 1 others → true ≡ is_control_pair first (slice_index others 0) →
    1 ≤ length others →
    unicode_escape (slice_index one 0) ++ escaped (escape rest)
    ≡ escaped (escape (first ∷ others))
control_front first one rest [] t d e h = absurd (omega (arith, h))
control_front first one rest (second ∷ others) t d e h =
    (λ i. unicode_escape (slice_index (t i) 0) ++ escaped (escape (d i)))
    ∙ control_string first (second ∷ others) e h

before_list : (b : ℕ) (x l : List ℕ) → IsPlain x → nat_lt 0 (length x) ≡ true →
    escaped (b ∷ (x ++ l)) ≡ byte_form b ++ escaped (x ++ l)
before_list b [] l all some = absurd (grind (arith, nat_tests))
before_list b (c ∷ x) l all some =
    before_plain b c (x ++ l) (omega (arith, plain_head c x all))

-- a byte above 126 that begins none of these characters
stays_first : (first : ℕ) (others : List ℕ) →
    false ≡ is_control_pair first (slice_index others 0) →
    escaped (first ∷ escape others) ≡ byte_form first ++ escaped (escape others)
stays_first first [] e =
    byte_last first ∙ sym (append-nil (byte_form first))
    ∙ ap (λ l. byte_form first ++ l) (sym none_escaped)
stays_first first (second ∷ rest) e = elim (cases_lt second 127) [
  | inl h ↦
      before_list first (escape_byte second) (escape rest) (below_plain second h)
      (below_some second h)
  | inr h ↦
      ap (λ l. escaped (first ∷ (l ++ escape rest))) (above_stays second h)
      ∙ byte_first first second (escape rest) e
      ∙ ap (λ l. byte_form first ++ escaped (l ++ escape rest)) (sym (above_stays second h))
]

below_form : (b : ℕ) → b < 127 → string_form b ≡ escape_byte b
below_form b h = let e : (b == 127) ≡ false = grind (arith, nat_tests) in rw e refl

above_form : (b : ℕ) → 127 ≤ b → string_form b ≡ byte_form b
above_form b h = ap (λ l. if b == 127 then unicode_escape 127 else l) (above_stays b h)

-- another byte at the front
pub character_string : (first : ℕ) (others : List ℕ) →
    false ≡ is_control_pair first (slice_index others 0) →
    string_form first ++ escaped (escape others) ≡ escaped (escape (first ∷ others))
character_string first others e = elim (cases_lt first 127) [
  | inl h ↦
      ap (λ l. l ++ escaped (escape others)) (below_form first h)
      ∙ sym (plain_front (escape_byte first) (escape others) (below_plain first h))
  | inr h ↦
      ap (λ l. l ++ escaped (escape others)) (above_form first h)
      ∙ sym (stays_first first others e)
      ∙ ap (λ l. escaped (l ++ escape others)) (sym (above_stays first h))
]

-- ---- one character more was laid

-- what a string holds for the text
abbrev pub string_said : List ℕ → List ℕ
string_said text = escaped (escape text)

pub no_string : (left : List ℕ) → left ≡ [] → string_said left ≡ []
no_string left e = ap string_said e ∙ none_escaped

pub string_then : (first : ℕ) (others rest front left : List ℕ) → left ≡ first ∷ others →
    front ++ string_said rest ≡ string_said (first ∷ others) →
    front ++ string_said rest ≡ string_said left
string_then first others rest front left is said = said ∙ ap string_said (sym is)
