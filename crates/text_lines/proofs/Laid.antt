-- Texts that are laid over a slice one after the other.
use Rattle.std.proofs.Common.{◌≡◌, ℕ, zero, suc, ◌+◌, ◌-◌, ◌^◌, ◌≤◌, List, [], ◌∷◌, ◌++◌, length}
use Rattle.std.proofs.Common.{take}
use Rattle.std.proofs.Common.{drop, refl, sym, ap, ◌∙◌, arith, inl, inr, subst, append-nil}
use Rattle.std.proofs.Common.{append_assoc}
use Rattle.std.proofs.lemmas.List.{length-append, drop-drop}
use Rattle.std.proofs.lemmas.Bool.{cases_lt}
use Rattle.std.proofs.Math.ListN.{drop_of_length-le}
use borrow.Rule.Slice.PartMut.{put_mid}
use Rattle.text_lines.specs.Laying.{text_end, laid, over, Lays}

over_more : (x y s : List ℕ) → over (x ++ y) s ≡ laid (length x) y (over x s)
over_more [] y s = refl
over_more (b ∷ x) y [] = refl
over_more (b ∷ x) y (c ∷ s) = ap (λ l. b ∷ l) (over_more x y s)

suc_more : (n m : ℕ) → suc (n + m) ≡ suc n + m
suc_more n m = omega arith

laid_more : (at : ℕ) (x y s : List ℕ) → laid at (x ++ y) s ≡ laid (at + length x) y (laid at x s)
laid_more zero x y s =
    over_more x y s ∙ ap (λ n. laid n y (over x s)) (omega arith)
laid_more (suc at) x y [] = ap (λ n. laid n y []) (suc_more at (length x))
laid_more (suc at) x y (c ∷ s) =
    ap (λ l. c ∷ l) (laid_more at x y s)
    ∙ ap (λ n. laid n y (c ∷ laid at x s)) (suc_more at (length x))

laid_past : (at : ℕ) (y s : List ℕ) → length s ≤ at → laid at y s ≡ s
laid_past zero [] s h = refl
laid_past zero (b ∷ y) [] h = refl
laid_past zero (b ∷ y) (c ∷ s) h = absurd (omega (arith, h))
laid_past (suc at) y [] h = refl
laid_past (suc at) y (c ∷ s) h = ap (λ l. c ∷ l) (laid_past at y s (omega (arith, h)))

length-over : (x s : List ℕ) → length (over x s) ≡ length s
length-over [] s = refl
length-over (b ∷ x) [] = refl
length-over (b ∷ x) (c ∷ s) = ap suc (length-over x s)

pub length-laid : (at : ℕ) (x s : List ℕ) → length (laid at x s) ≡ length s
length-laid zero x s = length-over x s
length-laid (suc at) x [] = refl
length-laid (suc at) x (c ∷ s) = ap suc (length-laid at x s)

-- where there is room
over_front : (x s : List ℕ) → length x ≤ length s → over x s ≡ x ++ drop (length x) s
over_front [] s h = refl
over_front (b ∷ x) [] h = absurd (omega (arith, h))
over_front (b ∷ x) (c ∷ s) h = ap (λ l. b ∷ l) (over_front x s (omega (arith, h)))

pub laid_within : (at : ℕ) (x s : List ℕ) → at + length x ≤ length s →
    laid at x s ≡ take at s ++ (x ++ drop (at + length x) s)
laid_within zero x s h =
    over_front x s (omega (arith, h)) ∙ ap (λ n. x ++ drop n s) (omega arith)
laid_within (suc at) x [] h = absurd (omega (arith, h))
laid_within (suc at) x (c ∷ s) h =
    ap (λ l. c ∷ l) (laid_within at x s (omega (arith, h)))
    ∙ ap (λ n. c ∷ (take at s ++ (x ++ drop n (c ∷ s)))) (suc_more at (length x))

-- where there isn't
over_cut : (x s : List ℕ) → length s ≤ length x → over x s ≡ take (length s) x
over_cut [] [] h = refl
over_cut [] (c ∷ s) h = absurd (omega (arith, h))
over_cut (b ∷ x) [] h = refl
over_cut (b ∷ x) (c ∷ s) h = ap (λ l. b ∷ l) (over_cut x s (omega (arith, h)))

suc_less : (n m : ℕ) → n - m ≡ suc n - suc m
suc_less n m = omega arith

pub laid_cut : (at : ℕ) (x s : List ℕ) → at ≤ length s → length s ≤ at + length x →
    laid at x s ≡ take at s ++ take (length s - at) x
laid_cut zero x s h k =
    over_cut x s (omega (arith, k)) ∙ ap (λ n. take n x) (omega arith)
laid_cut (suc at) x [] h k = absurd (omega (arith, h))
laid_cut (suc at) x (c ∷ s) h k =
    ap (λ l. c ∷ l) (laid_cut at x s (omega (arith, h)) (omega (arith, k)))
    ∙ ap (λ n. c ∷ (take at s ++ take n x)) (suc_less (length s) at)

-- two texts one after the other
laid_then : (at m : ℕ) (x y a : List ℕ) → m ≡ text_end at x → length a ≤ 2 ^ 64 - 1 →
    laid m y (laid at x a) ≡ laid at (x ++ y) a
laid_then at m x y a e h = elim (cases_lt (2 ^ 64 - 1) (at + length x)) [
  | inl over ↦
      laid_past m y (laid at x a) (omega (arith, h, e, over, length-laid at x a))
      ∙ sym (laid_past (at + length x) y (laid at x a)
      (omega (arith, h, over, length-laid at x a)))
      ∙ sym (laid_more at x y a)
  | inr within ↦
      ap (λ n. laid n y (laid at x a)) (omega (arith, e, within)) ∙ sym (laid_more at x y a)
]

pub lays_both : (x y : List ℕ) (at : ℕ) (a : List ℕ) (m : ℕ) (b : List ℕ) (e : ℕ) (c : List ℕ) →
    Lays x at a m b → Lays y m b e c → Lays (x ++ y) at a e c
unfolding Lays
lays_both x y at a m b e c h k = (
  omega (arith, h.0, k.0, length-append x y),
  λ fits.
      k.1 (omega (arith, fits, ap length (h.1 fits), length-laid at x a))
      ∙ ap (λ l. laid m y l) (h.1 fits) ∙ laid_then at m x y a h.0 fits,
)

laid_none : (at : ℕ) (a : List ℕ) → laid at [] a ≡ a
laid_none zero a = refl
laid_none (suc at) [] = refl
laid_none (suc at) (c ∷ a) = ap (λ l. c ∷ l) (laid_none at a)

-- no text
pub lays_none : (at : ℕ) (a : List ℕ) → at ≤ 2 ^ 64 - 1 → Lays [] at a at a
unfolding Lays
lays_none at a h = (omega (arith, h), λ fits. sym (laid_none at a))

-- the same text in other words
pub lays_said : (x y : List ℕ) (at : ℕ) (a : List ℕ) (e : ℕ) (b : List ℕ) → x ≡ y →
    Lays x at a e b → Lays y at a e b
lays_said x y at a e b same h = subst (λ l. Lays l at a e b) same h

-- a text that was copied over a part of the slice
pub lays_mid : (at k : ℕ) (x a ys : List ℕ) → at + length x ≤ length a → k ≡ length x → ys ≡ x →
    length a ≤ 2 ^ 64 - 1 → Lays x at a (at + length x) (put_mid at k a ys)
unfolding Lays
lays_mid at k x a ys h e is most = (
  omega (arith, h, most),
  λ fits.
      ap (λ l. take at a ++ (l ++ drop k (drop at a))) is
      ∙ ap (λ n. take at a ++ (x ++ drop n (drop at a))) e
      ∙ ap (λ l. take at a ++ (x ++ l)) (drop-drop (length x) at a)
      ∙ sym (laid_within at x a h),
)

-- a text of which the front was copied up to the end of the slice
pub lays_cut : (at k : ℕ) (x a ys : List ℕ) (e : ℕ) → at ≤ length a → length a ≤ at + length x →
    k ≡ length a - at → ys ≡ take k x → e ≡ text_end at x → Lays x at a e (put_mid at k a ys)
unfolding Lays
lays_cut at k x a ys e h over is made stops = (
  stops,
  λ fits.
      ap (λ l. take at a ++ (l ++ drop k (drop at a))) made
      ∙ ap (λ l. take at a ++ (take k x ++ l))
      (drop-drop k at a ∙ drop_of_length-le a (omega (arith, h, is)))
      ∙ ap (λ l. take at a ++ l) (append-nil (take k x))
      ∙ ap (λ n. take at a ++ take n x) is
      ∙ sym (laid_cut at x a h over),
)

-- a text that begins past the end of the slice
pub lays_past : (at : ℕ) (x a : List ℕ) (e : ℕ) → length a ≤ at → e ≡ text_end at x → Lays x at a e
    a
unfolding Lays
lays_past at x a e h stops = (stops, λ fits. sym (laid_past at x a h))

-- a text, and then one that has two parts
pub lays_next : (x y z : List ℕ) (at : ℕ) (a : List ℕ) (m : ℕ) (b : List ℕ) (e : ℕ) (c : List ℕ) →
    Lays x at a m b → Lays (y ++ z) m b e c → Lays (x ++ y ++ z) at a e c
lays_next x y z at a m b e c h k =
    lays_said (x ++ (y ++ z)) (x ++ y ++ z) at a e c (sym (append_assoc x y z))
    (lays_both x (y ++ z) at a m b e c h k)

more_parts : (x y z p : List ℕ) → x ++ y ≡ z → x ++ (y ++ p) ≡ z ++ p
more_parts x y z p e = sym (append_assoc x y p) ∙ ap (λ l. l ++ p) e

-- a text, and then one that has six parts
pub lays_origin : (x p q r s t u : List ℕ) (at : ℕ) (a : List ℕ) (m : ℕ) (b : List ℕ) (e : ℕ)
    (c : List ℕ) → Lays x at a m b → Lays (p ++ q ++ r ++ s ++ t ++ u) m b e c →
    Lays (x ++ p ++ q ++ r ++ s ++ t ++ u) at a e c
lays_origin x p q r s t u at a m b e c h k =
    lays_said _ _ at a e c
    (more_parts x _ _ u (more_parts x _ _ t (more_parts x _ _ s (more_parts x _ _ r
    (more_parts x p (x ++ p) q refl)))))
    (lays_both x (p ++ q ++ r ++ s ++ t ++ u) at a m b e c h k)

-- places stay below 2^64
pub lays_end : (x : List ℕ) (at : ℕ) (a : List ℕ) (e : ℕ) (b : List ℕ) → Lays x at a e b →
    e ≤ 2 ^ 64 - 1
unfolding Lays
lays_end x at a e b h = omega (arith, h.0)

pub lays_length : (text before after : List ℕ) (end : ℕ) → Lays text 0 before end after →
    length text ≤ 2 ^ 64 - 1 → end ≡ length text
unfolding Lays
lays_length text before after end h most = omega (arith, h.0, most)

pub lays_whole : (text before after : List ℕ) (end : ℕ) → Lays text 0 before end after →
    length before ≤ 2 ^ 64 - 1 → length text ≤ length before →
    after ≡ text ++ drop (length text) before
unfolding Lays
lays_whole text before after end h most room = h.1 most ∙ over_front text before room

pub lays_size : (text before after : List ℕ) (end : ℕ) → Lays text 0 before end after →
    length before ≤ 2 ^ 64 - 1 → length after ≡ length before
unfolding Lays
lays_size text before after end h most = ap length (h.1 most) ∙ length-laid 0 text before
