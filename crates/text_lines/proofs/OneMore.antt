-- Lists of pieces, one more piece at a time.
use Rattle.std.proofs.Common.{◌≡◌, ℕ, ◌<◌, ◌≤◌, ◌-◌, ◌^◌, ◌%◌, arith, List, [], ◌∷◌, ◌++◌, length}
use Rattle.std.proofs.Common.{take, drop, refl, sym}
use Rattle.std.specs.Net.Text.{hex}
use Rattle.rtr_base.specs.Bytes.{value}
use Rattle.std.proofs.Common.{codes, decimal, flat_map, ap, ◌∙◌}
use Rattle.std.proofs.lemmas.List.{take-append-drop}
use Rattle.base64.specs.Engines.{url_safe_no_pad}
use Rattle.base64.specs.GeneralPurpose.{encode_of}
use Rattle.base64.proofs.EngineFacts.{encode_of-append}
use Rattle.hex.specs.Hex.{encode_lower, encode_with}
use Rattle.rtr_payload.specs.PayloadTexts.{each_text}
use Rattle.rtr_payload.specs.Providers.{words_of}
use Rattle.text_lines.specs.Laying.{Lays}
use Rattle.text_lines.proofs.Laid.{lays_both, lays_none, lays_said}

-- the text of each provider
abbrev pub each_said : List ℕ → List ℕ
each_said bytes = each_text (words_of bytes)

-- a colon and each segment in hex
abbrev pub segments_said : List ℕ → List ℕ
segments_said segments = flat_map (λ t. codes ":" ++ hex t) segments

-- the digits of one byte, and those of the rest
pub hex_first : (b : ℕ) (rest : List ℕ) →
    encode_lower (b ∷ []) ++ encode_lower rest ≡ encode_lower (b ∷ rest)
unfolding encode_with
hex_first b rest = refl

pub hex_then : (b : ℕ) (digits rest left : List ℕ) → digits ≡ encode_lower (b ∷ []) →
    left ≡ b ∷ rest → digits ++ encode_lower rest ≡ encode_lower left
hex_then b digits rest left e is =
    ap (λ l. l ++ encode_lower rest) e ∙ hex_first b rest ∙ ap encode_lower (sym is)

pub no_hex : (left : List ℕ) → left ≡ [] → encode_lower left ≡ []
unfolding encode_with
no_hex left e = ap encode_lower e

-- a chunk of which the length is a multiple of three, and the rest
pub chunk_then : (left front back : List ℕ) → front ≡ take 768 left → back ≡ drop 768 left →
    length front ≡ 768 → encode_of url_safe_no_pad front ++ encode_of url_safe_no_pad back
    ≡ encode_of url_safe_no_pad left
chunk_then left front back e d size =
    sym (encode_of-append url_safe_no_pad front back (ap (λ n. n % 3) size))
    ∙ ap (encode_of url_safe_no_pad)
    ((λ i. e i ++ d i) ∙ take-append-drop 768 left)

-- fewer bytes than those of a provider
pub few_said : (left : List ℕ) → length left < 4 → each_said left ≡ []
few_said [] h = refl
few_said (a ∷ []) h = refl
few_said (a ∷ b ∷ []) h = refl
few_said (a ∷ b ∷ c ∷ []) h = refl
few_said (a ∷ b ∷ c ∷ d ∷ left) h = absurd (omega (arith, h))

-- what a first element gives, and the rest
pub flat_then : (f : ℕ → List ℕ) (x : ℕ) (rest left : List ℕ) → left ≡ x ∷ rest →
    f x ++ flat_map f rest ≡ flat_map f left
flat_then f x rest left e = ap (flat_map f) (sym e)

pub no_flat : (f : ℕ → List ℕ) (left : List ℕ) → left ≡ [] → flat_map f left ≡ []
no_flat f left e = ap (flat_map f) e

-- a first provider, and the rest
pub provider_then : (left front back : List ℕ) (n : ℕ) → 4 ≤ length left → front ≡ take 4 left →
    back ≡ drop 4 left → n ≡ value (take 4 (drop 0 front)) →
    (codes " AS" ++ decimal n) ++ each_said back ≡ each_said left
provider_then [] front back n h f k e = absurd (omega (arith, h))
provider_then (a ∷ []) front back n h f k e = absurd (omega (arith, h))
provider_then (a ∷ b ∷ []) front back n h f k e = absurd (omega (arith, h))
provider_then (a ∷ b ∷ c ∷ []) front back n h f k e = absurd (omega (arith, h))
provider_then (a ∷ b ∷ c ∷ d ∷ left) front back n h f k e =
    λ i. (codes " AS" ++ decimal ((e ∙ ap (λ l. value (take 4 l)) f) i)) ++ each_said (k i)

-- nothing is left
pub none_then : (f : List ℕ → List ℕ) (left all : List ℕ) (place at : ℕ) (start now : List ℕ) →
    f left ≡ [] → at ≤ 2 ^ 64 - 1 →
    ((stop : ℕ) (after : List ℕ) → Lays (f left) at now stop after →
    Lays (f all) place start stop after) →
    Lays (f all) place start at now
none_then f left all place at start now none most whole =
    whole at now (lays_said [] (f left) at now at now (sym none) (lays_none at now most))

-- a first piece and then the rest, where those are all that is left
pub piece_then : (f : List ℕ → List ℕ) (left first rest : List ℕ) (all : List ℕ) (place at : ℕ)
    (start now : List ℕ) (m : ℕ) (b : List ℕ) → first ++ f rest ≡ f left →
    ((stop : ℕ) (after : List ℕ) → Lays (f left) at now stop after →
    Lays (f all) place start stop after) →
    Lays first at now m b →
    (stop : ℕ) (after : List ℕ) → Lays (f rest) m b stop after →
    Lays (f all) place start stop after
piece_then f left first rest all place at start now m b is whole one stop after more =
    whole stop after
    (lays_said (first ++ f rest) (f left) at now stop after is
    (lays_both first (f rest) at now m b stop after one more))
