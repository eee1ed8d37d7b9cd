-- The pieces of an error report in a slice, one after the other.
use Rattle.std.proofs.Common.{◌≡◌, ℕ, zero, suc, ◌+◌, List, [], ◌∷◌, ◌++◌, length, drop, refl, sym}
use Rattle.std.proofs.Common.{ap, ◌∙◌, append_assoc, arith}
use Rattle.rtr_base.specs.Bytes.{be}
use Rattle.rtr_units.specs.Header.{header}
use Rattle.rtr_units.specs.Report.{report}

drop_none : (m : ℕ) → drop {A = ℕ} m [] ≡ []
drop_none zero = refl
drop_none (suc m) = refl

drop_sum : (m n : ℕ) (l : List ℕ) → drop m (drop n l) ≡ drop (m + n) l
drop_sum m zero l =
    let sum : m ≡ m + 0 = omega arith in ap (λ k. drop k l) sum
drop_sum m (suc n) [] = drop_none m ∙ sym (drop_none (m + suc n))
drop_sum m (suc n) (x ∷ l) =
    let sum : suc (m + n) ≡ m + suc n = omega arith in
    drop_sum m n l ∙ ap (λ k. drop k (x ∷ l)) sum

pub laid : (v c : ℕ) (p t old h m l a b d : List ℕ) →
    h ≡ header v 10 c (16 + length p + length t) → m ≡ be (length p) 4 ++ p →
    l ≡ be (length t) 4 ++ t → a ≡ drop 8 old → b ≡ drop (4 + length p) a →
    d ≡ drop (4 + length t) b →
    h ++ (m ++ (l ++ d)) ≡ report v c p t ++ drop (16 + length p + length t) old
laid v c p t old h m l a b d first second third e1 e2 e3 =
    let n : ℕ = 16 + length p + length t in
    let sums : (4 + length t) + ((4 + length p) + 8) ≡ n = omega arith in
    let rest : d ≡ drop n old =
    e3
    ∙ ap (drop (4 + length t))
    (e2 ∙ ap (drop (4 + length p)) e1 ∙ drop_sum (4 + length p) 8 old)
    ∙ drop_sum (4 + length t) ((4 + length p) + 8) old
    ∙ ap (λ k. drop k old) sums in
    let tail : p ++ (be (length t) 4 ++ (t ++ drop n old)) ≡
    ((p ++ be (length t) 4) ++ t) ++ drop n old =
    sym (append_assoc (p ++ be (length t) 4) t (drop n old)
    ∙ append_assoc p (be (length t) 4) (t ++ drop n old)) in
    (λ i. first i ++ (second i ++ (third i ++ rest i)))
    ∙ ap (λ x. header v 10 c n ++ (be (length p) 4 ++ x)) tail
