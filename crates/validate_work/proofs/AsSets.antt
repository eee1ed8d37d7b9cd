-- Numbers of ASes with commas between them, member by member.
use Rattle.std.proofs.Common.{◌≡◌, ◌≢◌, ℕ, zero, suc, ◌+◌, ◌<◌, List, [], ◌∷◌, ◌++◌, length}
use Rattle.std.proofs.Common.{get_or, refl, sym, ap, ◌∙◌, subst, arith, Bool, true, false, inl, inr}
use Rattle.std.proofs.Common.{Some, None, Option, Bor}
use Rattle.std.proofs.lemmas.Bool.{false≢true}
use Rattle.std.proofs.lemmas.Str.Pattern.{IsSplitOnceResult, split_parts}
use Rattle.rtr_base.specs.ReadTexts.{IsAsnText, Lacks, SplitsAt}
use Rattle.validate_work.specs.RouteTexts.{AreAsns, DecidesAsSet, DecidesAsns, IsAnyAsn, IsAsSet}
use Rattle.validate_work.specs.RouteTexts.{DecidesAsn, IsOriginText}

-- ---- the first comma

-- a text that is cut at a character has it
pub has_cut : (c : ℕ) (front back : List ℕ) → Lacks c (front ++ c ∷ back) → ⊥
has_cut c [] back l = l 0 (omega arith) refl
has_cut c (x ∷ front) back l =
    has_cut c front back (λ i k. l (suc i) (omega (arith, k)))

pub cut_lacks : (c : ℕ) (text front back : List ℕ) → SplitsAt c text front back → Lacks c text → ⊥
cut_lacks c text front back s l = has_cut c front back (subst (Lacks c) s.parts l)

abbrev FirstAt : ℕ → List ℕ → Type 0
FirstAt c front = (i : ℕ) → i < length front → get_or front i 0 ≢ c

abbrev rest_of : List ℕ → List ℕ
rest_of [] = []
rest_of (x ∷ a) = a

abbrev first_of : List ℕ → ℕ
first_of [] = 0
first_of (x ∷ a) = x

tail_is : (x y : ℕ) (a b : List ℕ) → (x ∷ a) ≡ (y ∷ b) → a ≡ b
tail_is x y a b e = ap rest_of e

head_is : (x y : ℕ) (a b : List ℕ) → (x ∷ a) ≡ (y ∷ b) → x ≡ y
head_is x y a b e = ap first_of e

-- it is cut at its first place in one way
one_cut : (c : ℕ) (f b g d : List ℕ) → FirstAt c f → FirstAt c g →
    (f ++ c ∷ b) ≡ (g ++ c ∷ d) → (f ≡ g) × (b ≡ d)
one_cut c [] b [] d p q e = (refl, tail_is c c b d e)
one_cut c [] b (y ∷ g) d p q e =
    absurd (q 0 (omega arith) (sym (head_is c y b (g ++ c ∷ d) e)))
one_cut c (x ∷ f) b [] d p q e =
    absurd (p 0 (omega arith) (head_is x c (f ++ c ∷ b) d e))
one_cut c (x ∷ f) b (y ∷ g) d p q e =
    let (same, rest) = one_cut c f b g d (λ i k. p (suc i) (omega (arith, k)))
    (λ i k. q (suc i) (omega (arith, k))) (tail_is x y (f ++ c ∷ b) (g ++ c ∷ d) e) in (
      ap (λ n. n ∷ f) (head_is x y (f ++ c ∷ b) (g ++ c ∷ d) e) ∙ ap (λ (l : List ℕ). y ∷ l) same,
      rest,
    )

pub same_cut : (c : ℕ) (text f b g d : List ℕ) → SplitsAt c text f b → SplitsAt c text g d →
    (f ≡ g) × (b ≡ d)
same_cut c text f b g d s t = one_cut c f b g d s.first t.first (sym s.parts ∙ t.parts)

-- ---- what is left of a text says of the whole

-- the whole text is such numbers exactly where the rest of it is
pub record AsnsSoFar (text rest : List ℕ) : Type 0 where
  pub back : (n : ℕ) → AreAsns n rest → (m : ℕ) × AreAsns m text
  pub on : (m : ℕ) → AreAsns m text → (n : ℕ) × AreAsns n rest

pub all_left : (text : List ℕ) → AsnsSoFar text text
all_left text = record { back = λ n h. (n, h); on = λ m h. (m, h) }

-- numbers with a comma among them begin with one
after_first : (rest front others : List ℕ) → SplitsAt 44 rest front others →
    (n : ℕ) → AreAsns n rest → IsAnyAsn front × ((k : ℕ) × AreAsns k others)
after_first rest front others s zero (lacks, asn) = absurd (cut_lacks 44 rest front others s lacks)
after_first rest front others s (suc n) (f, b, t, asn, more) =
    let (same, left) = same_cut 44 rest f b front others t s in
    (subst IsAnyAsn same asn, (n, subst (AreAsns n) left more))

pub goes_on : (text rest front others : List ℕ) → AsnsSoFar text rest →
    SplitsAt 44 rest front others → IsAnyAsn front → AsnsSoFar text others
goes_on text rest front others so s asn = record {
  back = λ n h. so.back (suc n) (front, others, s, asn, h);
  on = λ m h. let (n, k) = so.on m h in (after_first rest front others s n k).1;
}

pub no_member : (text rest front others : List ℕ) → AsnsSoFar text rest →
    SplitsAt 44 rest front others → (IsAnyAsn front → ⊥) → (m : ℕ) → AreAsns m text → ⊥
no_member text rest front others so s none m h =
    let (n, k) = so.on m h in none (after_first rest front others s n k).0

pub last_member : (text rest : List ℕ) → AsnsSoFar text rest → Lacks 44 rest → IsAnyAsn rest →
    (m : ℕ) × AreAsns m text
last_member text rest so lacks asn = so.back 0 (lacks, asn)

alone : (rest : List ℕ) → Lacks 44 rest → (IsAnyAsn rest → ⊥) → (n : ℕ) → AreAsns n rest → ⊥
alone rest lacks none zero (l, asn) = none asn
alone rest lacks none (suc n) (f, b, s, asn, more) = cut_lacks 44 rest f b s lacks

pub no_last_member : (text rest : List ℕ) → AsnsSoFar text rest → Lacks 44 rest →
    (IsAnyAsn rest → ⊥) → (m : ℕ) → AreAsns m text → ⊥
no_last_member text rest so lacks none m h =
    let (n, k) = so.on m h in alone rest lacks none n k

-- ---- what std says of a cut

pub cut_here : (text : List ℕ) (x y : Bor (List ℕ)) → IsSplitOnceResult 44 text (Some (x, y)) →
    SplitsAt 44 text x.now y.now
cut_here text x y h =
    let p = split_parts 44 text (Some (x, y)) h (omega arith) in
    record { parts = p.0; first = p.1 }

pub decides_last : (text rest : List ℕ) (b : Bool) → AsnsSoFar text rest →
    IsSplitOnceResult 44 rest None → DecidesAsn rest b → DecidesAsns text b
decides_last text rest true so h asn =
    last_member text rest so (split_parts 44 rest None h (omega arith)) asn
decides_last text rest false so h none =
    no_last_member text rest so (split_parts 44 rest None h (omega arith)) none

-- ---- between braces

no_end : (b : List ℕ) (c : ℕ) → [] ≡ b ++ c ∷ [] → ⊥
no_end [] c e = absurd (omega (arith, ap (λ (l : List ℕ). length l) e))
no_end (x ∷ b) c e = absurd (omega (arith, ap (λ (l : List ℕ). length l) e))

same_front : (a b : List ℕ) (c : ℕ) → (a ++ c ∷ []) ≡ (b ++ c ∷ []) → a ≡ b
same_front [] [] c e = refl
same_front [] (y ∷ b) c e = absurd (no_end b c (tail_is c y [] (b ++ c ∷ []) e))
same_front (x ∷ a) [] c e = absurd (no_end a c (sym (tail_is x c (a ++ c ∷ []) [] e)))
same_front (x ∷ a) (y ∷ b) c e =
    ap (λ n. n ∷ a) (head_is x y (a ++ c ∷ []) (b ++ c ∷ []) e)
    ∙ ap (λ (l : List ℕ). y ∷ l) (same_front a b c (tail_is x y (a ++ c ∷ []) (b ++ c ∷ []) e))

pub no_brace : (word rest : List ℕ) → word ≡ 123 ∷ rest →
    ((front : List ℕ) → rest ≢ front ++ 125 ∷ []) → IsAsSet word → ⊥
no_brace word rest is none (inside, parts, members) =
    none inside (tail_is 123 123 rest (inside ++ 125 ∷ []) (sym is ∙ parts))

pub decides_set : (word rest inside : List ℕ) (b : Bool) → word ≡ 123 ∷ rest →
    rest ≡ inside ++ 125 ∷ [] → DecidesAsns inside b → DecidesAsSet word b
decides_set word rest inside true p q h = (inside, p ∙ ap (λ (l : List ℕ). 123 ∷ l) q, h)
decides_set word rest inside false p q h = λ s.
    let (other, is, (n, k)) = s in
    h n (subst (AreAsns n) (same_front other inside 125
    (tail_is 123 123 (other ++ 125 ∷ []) (inside ++ 125 ∷ [])
    (sym is ∙ p ∙ ap (λ (l : List ℕ). 123 ∷ l) q))) k)

set_alone : (word : List ℕ) (b : Bool) → DecidesAsSet word b → b ≡ false → IsAsSet word → ⊥
set_alone word true d e s = absurd (false≢true (sym e))
set_alone word false d e s = d s

pub not_origin : (word : List ℕ) (b : Bool) → ((n : ℕ) → IsAsnText word n → ⊥) →
    DecidesAsSet word b → b ≡ false → (o : Option ℕ) → IsOriginText word o → ⊥
not_origin word b none d e (Some n) is = none n is
not_origin word b none d e None s = set_alone word b d e s
