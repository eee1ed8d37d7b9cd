-- Texts that are split at a byte, by what std says of them.
use Rattle.std.proofs.Common.{◌≡◌, ◌≢◌, ℕ, zero, suc, ◌+◌, ◌-◌, ◌<◌, ◌≤◌, List, []}
use Rattle.std.proofs.Common.{◌∷◌, ◌++◌, length, get_or}
use Rattle.std.proofs.Common.{take, drop, take-append-drop, refl, sym, ap, ◌∙◌, arith, Option}
use Rattle.std.proofs.Common.{Some, None, Bor, option_and_then, option_map}
use Rattle.std.proofs.Common.{MatchOption}
use Rattle.std.proofs.lemmas.Bool.{eq-eqb, ne_eqb}
use Rattle.std.proofs.lemmas.Str.Pattern.{IsSplitOnceResult, NoCharPasses-char, drop_at_char}
use Rattle.std.proofs.lemmas.Str.Pattern.{split_parts}
use Rattle.std.specs.Str.Pattern.{RFindsChar}
use Rattle.rtr_base.specs.ReadTexts.{Lacks}
use Rattle.validate_work.specs.PrivateTexts.{both_texts, only_text}
use Rattle.validate_work.specs.TableTexts.{after_char, field_at, front_or, split_first, split_last}

-- ---- at the first

first_none : (c : ℕ) (text : List ℕ) → Lacks c text → split_first c text ≡ None
unfolding split_first
first_none c [] h = refl
first_none c (b ∷ text) h =
    rw (ne_eqb b c (h 0 (omega arith)))
    (rw (first_none c text (λ i k. h (suc i) (omega (arith, k)))) refl)

first_some : (c : ℕ) (front back : List ℕ) → Lacks c front →
    split_first c (front ++ c ∷ back) ≡ Some (front, back)
unfolding split_first
first_some c [] back h = rw (eq-eqb c c refl) refl
first_some c (x ∷ front) back h =
    rw (ne_eqb x c (h 0 (omega arith)))
    (rw (first_some c front back (λ i k. h (suc i) (omega (arith, k)))) refl)

pub splits_first : (c : ℕ) (text : List ℕ) (r : Option (Bor (List ℕ) × Bor (List ℕ))) →
    IsSplitOnceResult c text r → c < 128 → option_map both_texts r ≡ split_first c text
splits_first c text None h low = sym (first_none c text (split_parts c text None h low))
splits_first c text (Some x) h low =
    let (parts, first) = split_parts c text (Some x) h low in
    sym (ap (split_first c) parts ∙ first_some c x.0.now x.1.now first)

-- ---- at the last

last_none : (c : ℕ) (text : List ℕ) → Lacks c text → split_last c text ≡ None
unfolding split_last
last_none c [] h = refl
last_none c (b ∷ text) h =
    rw (last_none c text (λ i k. h (suc i) (omega (arith, k))))
    (rw (ne_eqb b c (h 0 (omega arith))) refl)

last_some : (c : ℕ) (front back : List ℕ) → Lacks c back →
    split_last c (front ++ c ∷ back) ≡ Some (front, back)
unfolding split_last
last_some c [] back h = rw (last_none c back h) (rw (eq-eqb c c refl) refl)
last_some c (x ∷ front) back h = rw (last_some c front back h) refl

-- the clause of `rsplit_once` at a character
abbrev pub IsSplitLast : ℕ → List ℕ → Option (Bor (List ℕ) × Bor (List ℕ)) → Type 0
IsSplitLast c text r = MatchOption r (RFindsChar c text None) (λ x. (i : ℕ) × (j : ℕ)
    × RFindsChar c text (Some (i, j)) × (x.0.now ≡ take i text) × (x.1.now ≡ drop j text)
    × (i ≤ j) × (length x.0.now ≡ i) × (length x.1.now + j ≡ length text))

pub splits_last : (c : ℕ) (text : List ℕ) (r : Option (Bor (List ℕ) × Bor (List ℕ))) →
    IsSplitLast c text r → c < 128 → option_map both_texts r ≡ split_last c text
splits_last c text None h low =
    sym (last_none c text (λ i l. NoCharPasses-char c text i h low l))
splits_last c text (Some x) h low =
    let i = h.0 in
    let j = h.1 in
    let parts : text ≡ take i text ++ (c ∷ drop j text) =
    sym (take-append-drop i text)
    ∙ ap (λ (l : List ℕ). take i text ++ l) (drop_at_char c text i j h.2.1 low) in
    ap (λ (l : List ℕ). Some (l, x.1.now)) h.3
    ∙ ap (λ (l : List ℕ). Some (take i text, l)) h.4
    ∙ sym (ap (split_last c) parts ∙ last_some c (take i text) (drop j text)
    (λ k l. NoCharPasses-char c (drop j text) k h.2.0 low l))

-- ---- at the front

after_same : (c : ℕ) (rest : List ℕ) → after_char c (c ∷ rest) ≡ Some rest
after_same c rest = rw (eq-eqb c c refl) refl

after_other : (c : ℕ) (text : List ℕ) → ((rest : List ℕ) → text ≢ c ∷ rest) →
    after_char c text ≡ None
after_other c [] h = refl
after_other c (b ∷ text) h = rw (ne_eqb b c (λ e. h text (ap (λ n. n ∷ text) e))) refl

pub begins_after : (c : ℕ) (text : List ℕ) (r : Option (Bor (List ℕ))) →
    MatchOption r ((rest : List ℕ) → text ≢ c ∷ rest) (λ x. text ≡ c ∷ x.now) →
    option_map only_text r ≡ after_char c text
begins_after c text None h = sym (after_other c text h)
begins_after c text (Some x) h = sym (ap (after_char c) h ∙ after_same c x.now)

-- ---- fields

pub field_here : (index : ℕ) (text : List ℕ) (s : Option (List ℕ × List ℕ)) (r : List ℕ) →
    index ≡ 0 → s ≡ split_first 124 text → r ≡ front_or text s → Some r ≡ field_at index text
unfolding field_at
field_here zero text s r z e f = ap Some (f ∙ ap (front_or text) e)
field_here (suc n) text s r z e f = absurd (omega (arith, z))

pub field_later : (index : ℕ) (text : List ℕ) (p : List ℕ × List ℕ) (r : Option (List ℕ)) →
    0 < index → Some p ≡ split_first 124 text → r ≡ field_at (index - 1) p.1 →
    r ≡ field_at index text
unfolding field_at
field_later zero text p r more e h = absurd (omega (arith, more))
field_later (suc n) text p r more e h =
    let before : suc n - 1 ≡ n = omega arith in
    h ∙ ap (λ k. field_at k p.1) before
    ∙ ap (option_and_then (λ (q : List ℕ × List ℕ). field_at n q.1)) e

pub field_missing : (index : ℕ) (text : List ℕ) → 0 < index → None ≡ split_first 124 text →
    None ≡ field_at index text
unfolding field_at
field_missing zero text more e = absurd (omega (arith, more))
field_missing (suc n) text more e =
    ap (option_and_then (λ (q : List ℕ × List ℕ). field_at n q.1)) e
