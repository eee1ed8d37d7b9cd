-- The bytes of a report's text as they are quoted, one more at a time.
use Rattle.std.proofs.Common.{◌≡◌, ◌≤◌, ◌==◌, ℕ, List, [], ◌∷◌, ◌++◌, length, map, take, ap, sym}
use Rattle.std.proofs.Common.{arith, codes, false}
use Rattle.std.proofs.lemmas.Bool.Decides.{nat_tests}
use Rattle.rtr_c.specs.Texts.{quotation, quoted_byte}

-- what is quoted of bytes
abbrev pub all_quoted : List ℕ → List ℕ
all_quoted text = map quoted_byte text

pub quoted_then : (first : ℕ) (others left : List ℕ) → left ≡ first ∷ others →
    (quoted_byte first ∷ []) ++ all_quoted others ≡ all_quoted left
quoted_then first others left is = ap all_quoted (sym is)

pub none_quoted : (left : List ℕ) → left ≡ [] → all_quoted left ≡ []
none_quoted left is = ap all_quoted is

-- a text that isn't empty, of which this is the front
pub quotation_of : (text front : List ℕ) → 1 ≤ length text → front ≡ take 100 text →
    codes ", \"" ++ (all_quoted front ++ codes "\"") ≡ quotation text
quotation_of text front some is =
    let e : (length text == 0) ≡ false = grind (arith, nat_tests) in
    rw e (ap (λ l. codes ", \"" ++ (all_quoted l ++ codes "\"")) is)
