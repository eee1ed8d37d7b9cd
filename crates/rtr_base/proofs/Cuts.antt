-- A list of bytes, cut into its parts from place i on.
use Rattle.std.proofs.Common.{◌≡◌, ℕ, suc, ◌+◌, ◌^◌, ◌<◌, ◌≤◌, List, [], ◌∷◌, ◌++◌, length, take}
use Rattle.std.proofs.Common.{drop, get_or, sym, ap, ◌∙◌, arith}
use Rattle.std.proofs.Math.Seq.{drop-cons}
use Rattle.std.proofs.lemmas.List.{take-append-drop, length-take-le, length-drop, drop-drop}
use Rattle.std.proofs.lemmas.List.{drop_all}
use Rattle.rtr_base.specs.Bytes.{be, value, IsBytes}
use Rattle.rtr_base.proofs.Numbers.{IsBytes-take, IsBytes-drop, be-value, value_below}

-- a byte
pub cut_byte : (b rest : List ℕ) (i : ℕ) → i < length b → drop (suc i) b ≡ rest →
    drop i b ≡ get_or b i 0 ∷ rest
cut_byte b rest i l e = drop-cons b i 0 l ∙ ap (λ (x : List ℕ). get_or b i 0 ∷ x) e

-- k bytes
pub cut_bytes : (b rest : List ℕ) (i k : ℕ) → drop (i + k) b ≡ rest →
    drop i b ≡ take k (drop i b) ++ rest
cut_bytes b rest i k e =
    sym (take-append-drop k (drop i b))
    ∙ ap (λ (x : List ℕ). take k (drop i b) ++ x) (drop-drop k i b ∙ e)

-- k bytes, as the number that they say
pub cut_number : (b rest : List ℕ) (i k : ℕ) → IsBytes b → i + k ≤ length b →
    drop (i + k) b ≡ rest → drop i b ≡ be (value (take k (drop i b))) k ++ rest
cut_number b rest i k h l e =
    let whole : length (take k (drop i b)) ≡ k =
    length-take-le k (drop i b) (omega (arith, length-drop i b)) in
    cut_bytes b rest i k e
    ∙ ap (λ (x : List ℕ). x ++ rest)
    (sym (be-value (take k (drop i b)) k (IsBytes-take k (drop i b) (IsBytes-drop i b h)) whole))

pub number_fits : (b : List ℕ) (i k : ℕ) → IsBytes b → i + k ≤ length b →
    value (take k (drop i b)) < 256 ^ k
number_fits b i k h l =
    let whole : length (take k (drop i b)) ≡ k =
    length-take-le k (drop i b) (omega (arith, length-drop i b)) in
    rw whole at (value_below (take k (drop i b)) (IsBytes-take k (drop i b) (IsBytes-drop i b h)))

-- nothing more
pub cut_end : (b : List ℕ) (i : ℕ) → length b ≡ i → drop i b ≡ []
cut_end b i l = drop_all i b (omega arith)
