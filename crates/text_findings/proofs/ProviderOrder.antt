-- Providers one after the other.
use Rattle.std.proofs.Common.{◌≡◌, ℕ, ◌<◌, ◌≤◌, ◌/◌, Bool, true, false, List, [], ◌∷◌, length}
use Rattle.std.proofs.Common.{take, drop, refl, sym, ap, ◌∙◌, arith, Option, Some, None}
use Rattle.std.specs.Prelude.{◌&&◌}
use Rattle.rtr_base.specs.Bytes.{value}
use Rattle.rtr_payload.specs.Providers.{words_of}
use Rattle.text_findings.specs.PrivateSteps.{above}
use Rattle.text_findings.specs.Rules.{ascend}

-- whether providers ascend that come after the one that is given
abbrev pub ascend_after : Option ℕ → List ℕ → Bool
ascend_after None rest = ascend rest
ascend_after (Some last) rest = ascend (last ∷ rest)

-- as many as there are four bytes
pub words_count : (bytes : List ℕ) → length (words_of bytes) ≡ length bytes / 4
words_count [] = refl
words_count (a ∷ []) = refl
words_count (a ∷ b ∷ []) = refl
words_count (a ∷ b ∷ c ∷ []) = refl
words_count (a ∷ b ∷ c ∷ d ∷ bytes) = omega (arith, words_count bytes)

few_words : (bytes : List ℕ) → length bytes < 4 → words_of bytes ≡ []
few_words [] h = refl
few_words (a ∷ []) h = refl
few_words (a ∷ b ∷ []) h = refl
few_words (a ∷ b ∷ c ∷ []) h = refl
few_words (a ∷ b ∷ c ∷ d ∷ bytes) h = absurd (omega (arith, h))

first_word : (bytes : List ℕ) → 4 ≤ length bytes →
    words_of bytes ≡ value (take 4 bytes) ∷ words_of (drop 4 bytes)
first_word [] h = absurd (omega (arith, h))
first_word (a ∷ []) h = absurd (omega (arith, h))
first_word (a ∷ b ∷ []) h = absurd (omega (arith, h))
first_word (a ∷ b ∷ c ∷ []) h = absurd (omega (arith, h))
first_word (a ∷ b ∷ c ∷ d ∷ bytes) h = refl

none_left : (last : Option ℕ) → ascend_after last [] ≡ true
none_left None = refl
none_left (Some last) = refl

one_more : (last : Option ℕ) (p : ℕ) (rest : List ℕ) →
    ascend_after last (p ∷ rest) ≡ (above last p && ascend_after (Some p) rest)
one_more None p rest = refl
one_more (Some last) p rest = refl

pub ascend_end : (last : Option ℕ) (left : List ℕ) (all : Bool) → length left < 4 →
    ascend_after last (words_of left) ≡ all → true ≡ all
ascend_end last left all h e =
    sym (none_left last) ∙ ap (ascend_after last) (sym (few_words left h)) ∙ e

step : (last : Option ℕ) (left rest : List ℕ) (p : ℕ) → 4 ≤ length left →
    p ≡ value (take 4 left) → rest ≡ drop 4 left →
    ascend_after last (words_of left) ≡ (above last p && ascend_after (Some p) (words_of rest))
step last left rest p h is after =
    ap (ascend_after last) (first_word left h)
    ∙ (λ i. ascend_after last (sym is i ∷ words_of (sym after i)))
    ∙ one_more last p (words_of rest)

pub ascend_stop : (last : Option ℕ) (left : List ℕ) (p : ℕ) (all : Bool) → 4 ≤ length left →
    p ≡ value (take 4 left) → above last p ≡ false → ascend_after last (words_of left) ≡ all →
    false ≡ all
ascend_stop last left p all h is low e =
    ap (λ b. b && ascend_after (Some p) (words_of (drop 4 left))) (sym low)
    ∙ sym (step last left (drop 4 left) p h is refl) ∙ e

pub ascend_more : (last : Option ℕ) (left rest : List ℕ) (p : ℕ) (all : Bool) → 4 ≤ length left →
    p ≡ value (take 4 left) → rest ≡ drop 4 left → above last p ≡ true →
    ascend_after last (words_of left) ≡ all → ascend_after (Some p) (words_of rest) ≡ all
ascend_more last left rest p all h is after high e =
    ap (λ b. b && ascend_after (Some p) (words_of rest)) (sym high)
    ∙ sym (step last left rest p h is after) ∙ e
