-- The number of sixteen bytes, by those of its halves.
use Rattle.std.proofs.Common.{◌≡◌, ℕ, ◌+◌, ◌*◌, ◌^◌, ◌≤◌, List, [], ◌∷◌, ◌++◌, length, take, drop}
use Rattle.std.proofs.Common.{sym, ap, ◌∙◌, arith}
use Rattle.std.proofs.Math.Nat.{mul_assoc}
use Rattle.std.proofs.Math.Seq.{take-add}
use Rattle.std.proofs.lemmas.Nat.{pow-add}
use Rattle.std.proofs.lemmas.List.{length-append, length-take-le, length-drop, drop-drop}
use Rattle.rtr_base.specs.Bytes.{value}

-- eight more bytes
value_before : (xs ys : List ℕ) → length ys ≡ 8 → value (xs ++ ys) ≡ value xs * 2 ^ 64 + value ys
value_before [] ys h = omega arith
value_before (b ∷ bs) ys h =
    let places : 256 ^ length (bs ++ ys) ≡ 256 ^ length bs * 2 ^ 64 =
    ap (λ (n : ℕ). 256 ^ n) (length-append bs ys ∙ ap (λ (n : ℕ). length bs + n) h)
    ∙ pow-add 256 (length bs) 8 in
    rw places (omega (arith, value_before bs ys h, mul_assoc b (256 ^ length bs) (2 ^ 64)))

pub value_of_halves : (b : List ℕ) (i : ℕ) → i + 16 ≤ length b →
    value (take 8 (drop i b)) * 2 ^ 64 + value (take 8 (drop (i + 8) b)) ≡
    value (take 16 (drop i b))
value_of_halves b i l =
    let parts : take 16 (drop i b) ≡ take 8 (drop i b) ++ take 8 (drop (i + 8) b) =
    take-add 8 8 (drop i b)
    ∙ ap (λ (x : List ℕ). take 8 (drop i b) ++ take 8 x) (drop-drop 8 i b) in
    sym (ap value parts
    ∙ value_before (take 8 (drop i b)) (take 8 (drop (i + 8) b))
    (length-take-le 8 (drop (i + 8) b) (omega (arith, length-drop (i + 8) b))))
