use Rattle.std.proofs.lemmas.List.{drop-drop}
-- The parts of a history.
use Rattle.std.proofs.Common.{◌≡◌, ◌≤◌, ◌<◌, ◌+◌, ◌-◌, ◌^◌, ℕ, List, ◌++◌, length, take, drop, refl}
use Rattle.std.proofs.Common.{sym, ap, ◌∙◌, arith, append_assoc}
use Rattle.std.proofs.lemmas.List.{take-append-le, drop-append-le, take_at, drop_at, drop-take}
use Rattle.std.proofs.lemmas.List.{take_all}
use Rattle.std.proofs.lemmas.List.{take-append-drop, length-append, length-drop, length-take-le}
use Rattle.std.proofs.lemmas.List.{take-take}
use Rattle.rtr_base.specs.Bytes.{be, value}
use Rattle.rtr_base.proofs.Numbers.{length-be, value-be}
use Rattle.data_history.specs.Parts.{HasPart, part_time, head_bytes, part_bytes, part_form}
use Rattle.data_history.specs.Parts.{part_rest, part_size}

-- the first part of the bytes has these, and these are the parts after it
pub record IsPart (b : List ℕ) (t : ℕ) (s r : List ℕ) : Type 0 where
  pub has : HasPart b
  pub time : part_time b ≡ t
  pub bytes : part_bytes b ≡ s
  pub rest : part_rest b ≡ r

-- after a head that says their length
pub headed : (b h : List ℕ) (t : ℕ) (s r : List ℕ) → b ≡ h ++ (s ++ r) → length h ≡ 16 →
    value (take 8 (drop 0 h)) ≡ t → value (take 8 (drop 8 h)) ≡ length s → IsPart b t s r
unfolding HasPart part_bytes part_rest
headed b h t s r e l at says =
    let l' = s ++ r in
    let behind : drop 16 b ≡ s ++ r = ap (drop 16) e ∙ drop_at h l' 16 l in
    let field : take 8 (drop 8 b) ≡ take 8 (drop 8 h) =
    ap (λ x. take 8 (drop 8 x)) e
    ∙ ap (take 8) (drop-append-le 8 h l' (omega (arith, l)))
    ∙ take-append-le 8 (drop 8 h) l' (omega (arith, l, length-drop 8 h)) in
    let first : take 8 (drop 0 b) ≡ take 8 (drop 0 h) =
    ap (λ x. take 8 (drop 0 x)) e
    ∙ ap (take 8) (drop-append-le 0 h l' (omega arith))
    ∙ take-append-le 8 (drop 0 h) l' (omega (arith, l, length-drop 0 h)) in
    let size : part_size b ≡ length s = ap value field ∙ says in
    record {
      has = (
        omega (arith, ap length e, length-append h l', l),
        omega (arith, size, ap length behind, length-append s r),
      );
      time = ap value first ∙ at;
      bytes = (λ i. take (size i) (behind i)) ∙ take_at s r (length s) refl;
      rest = (λ i. drop (size i) (behind i)) ∙ drop_at s r (length s) refl;
    }

-- a part that was written
pub formed : (t : ℕ) (s r : List ℕ) → t < 2 ^ 64 → length s < 2 ^ 64 →
    IsPart (part_form t s ++ r) t s r
unfolding head_bytes
formed t s r now lt =
    let h = be t 8 ++ be (length s) 8 in
    headed (part_form t s ++ r) h t s r (append_assoc h s r)
    (length-append (be t 8) (be (length s) 8)
    ∙ (λ i. length-be t 8 i + length-be (length s) 8 i))
    (ap value (take_at (be t 8) (be (length s) 8) 8 (length-be t 8)) ∙ value-be t 8 now)
    (ap (λ l. value (take 8 l)) (drop_at (be t 8) (be (length s) 8) 8 (length-be t 8))
    ∙ ap value (take_all 8 (be (length s) 8) (omega (arith, length-be (length s) 8)))
    ∙ value-be (length s) 8 lt)

front_and_more : (n m : ℕ) (xs : List ℕ) → n ≤ length xs →
    take (n + m) xs ≡ take n xs ++ take m (drop n xs)
front_and_more n m xs le =
    sym (take-append-drop n (take (n + m) xs))
    ∙ (λ i. take-take n (n + m) xs (omega arith) i ++ drop-take n m xs i)

-- a front of the parts that has all of the first
pub cut_after : (b : List ℕ) (n k : ℕ) → HasPart b → n ≡ 16 + part_size b →
    IsPart (take (n + k) b) (part_time b) (part_bytes b) (take k (part_rest b))
unfolding HasPart part_bytes part_rest
cut_after b n k h e =
    let p = part_size b in
    let d = drop 16 b in
    let sum : n + k ≡ 16 + (p + k) = omega (arith, e) in
    let whole : take (n + k) b ≡ take 16 b ++ (take p d ++ take k (drop p d)) =
    ap (λ m. take m b) sum
    ∙ front_and_more 16 (p + k) b h.0
    ∙ ap (λ l. take 16 b ++ l) (front_and_more p k d h.1) in
    headed (take (n + k) b) (take 16 b) (part_time b) (take p d) (take k (drop p d)) whole
    (length-take-le 16 b h.0)
    (ap value (take-take 8 16 b (omega arith)))
    (ap (λ l. value (take 8 l)) (drop-take 8 8 b) ∙ ap value (take-take 8 8 (drop 8 b) (omega
    arith))
    ∙ sym (length-take-le p d h.1))

-- how long its bytes are, and those after it
pub part_sizes : (b : List ℕ) → HasPart b →
    16 + (length (part_bytes b) + length (part_rest b)) ≡ length b
unfolding HasPart part_bytes part_rest
part_sizes b h =
    omega (
      arith,
      length-take-le (part_size b) (drop 16 b) h.1,
      length-drop (part_size b) (drop 16 b),
      length-drop 16 b,
      h.0,
      h.1,
    )

-- how long the first part is
pub consumed : (b rest : List ℕ) → HasPart b → rest ≡ part_rest b →
    length b - length rest ≡ 16 + part_size b
unfolding HasPart part_rest
consumed b rest h e =
    omega (arith, ap length e, length-drop (part_size b) (drop 16 b), length-drop 16 b, h.0, h.1)

pub formed_length : (t : ℕ) (s r : List ℕ) → length (part_form t s ++ r) ≡
    16 + (length s + length r)
unfolding head_bytes
formed_length t s r =
    omega (
      arith,
      length-append (part_form t s) r,
      length-append (be t 8 ++ be (length s) 8) s,
      length-append (be t 8) (be (length s) 8),
      length-be t 8,
      length-be (length s) 8,
    )

pub head_length : (t n : ℕ) → length (head_bytes t n) ≡ 16
unfolding head_bytes
head_length t n = omega (arith, length-append (be t 8) (be n 8), length-be t 8, length-be n 8)

-- what is left of the parts behind the first
pub left_after : (b rest : List ℕ) (n : ℕ) → HasPart b → rest ≡ part_rest b →
    drop (length b - length rest + n) b ≡ drop n rest
unfolding part_rest
left_after b rest n h e =
    let p = part_size b in
    let sum : length b - length rest + n ≡ 16 + (p + n) = omega (arith, consumed b rest h e) in
    ap (λ m. drop m b) sum ∙ sym (drop-drop (p + n) 16 b) ∙ sym (drop-drop n p (drop 16 b))
    ∙ ap (drop n) (sym e)

-- where its bytes stand
pub bytes_at : (b s : List ℕ) → HasPart b → s ≡ part_bytes b →
    take (length s) (drop 16 b) ≡ part_bytes b
unfolding HasPart part_bytes
bytes_at b s h e =
    ap (λ n. take n (drop 16 b)) (ap length e ∙ length-take-le (part_size b) (drop 16 b) h.1)

pub size_at : (b s : List ℕ) → HasPart b → s ≡ part_bytes b → length s ≡ part_size b
unfolding HasPart part_bytes
size_at b s h e = ap length e ∙ length-take-le (part_size b) (drop 16 b) h.1
