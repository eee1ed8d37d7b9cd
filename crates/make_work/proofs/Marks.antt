-- A text without the mark of its byte order.
use Rattle.std.proofs.Common.{◌≡◌, ℕ, Bool, true, cond, List, [], ◌∷◌, drop, ap}
use Rattle.std.proofs.Common.{◌∙◌, ◌&&◌, ◌-◌, suc, nat_le, length, take, arith}
use Rattle.std.proofs.lemmas.Bool.Decides.{nat_tests}
use Rattle.std.proofs.lemmas.List.{length-drop, take_all}
use Rattle.csv.specs.Reading.{strip_bom, is_bom}
use Rattle.make_work.specs.PrivateCsv.{has_mark}

long_enough : (n : ℕ) → nat_le 3 (suc (suc (suc n))) ≡ true
long_enough n = grind (arith, nat_tests)

pub rest : (text : List ℕ) (b : Bool) → b ≡ has_mark text →
    cond b (drop 3 text) text ≡ strip_bom text
unfolding strip_bom
rest [] b e = ap (λ k. cond k [] []) e
rest (x ∷ []) b e = ap (λ k. cond k [] (x ∷ [])) e
rest (x ∷ y ∷ []) b e = ap (λ k. cond k [] (x ∷ y ∷ [])) e
rest (x ∷ y ∷ z ∷ more) b e =
    ap (λ k. cond k more (x ∷ y ∷ z ∷ more))
    (e ∙ ap (λ k. k && is_bom x y z) (long_enough (length more)))

-- what is sliced from the third byte on
pub from_third : (text : List ℕ) → take (length text - 3) (drop 3 text) ≡ drop 3 text
from_third text =
    take_all (length text - 3) (drop 3 text) (omega (arith, length-drop 3 text))
