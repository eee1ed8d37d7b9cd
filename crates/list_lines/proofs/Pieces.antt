-- Bytes of lines, one more byte at a time, and texts that are laid at the end of a line.
use Rattle.std.proofs.Common.{◌≡◌, ℕ, ◌+◌, ◌-◌, ◌^◌, ◌<◌, ◌≤◌, List, ◌++◌, length, take, drop}
use Rattle.std.proofs.Common.{get_or, map, set, max, replicate, arith, ap, sym, ◌∙◌}
use Rattle.std.proofs.Common.{append_assoc, length-append, zero, suc, [], ◌∷◌, refl}
use Rattle.std.proofs.lemmas.List.Edits.{map_over_more}
use Rattle.std.proofs.lemmas.List.{get_or_default, length-take-le, take_at}
use Rattle.std.proofs.lemmas.List.{length-map, length-take, take-append-le, take-map, take-take}
use Rattle.text_lines.specs.Laying.{Lays, laid, text_end}
use Rattle.text_lines.proofs.Laid.{laid_within, length-laid}

-- one byte more was made a space where it was below 32
pub cleared_more : (xs ys : List ℕ) (i y : ℕ) → i < length xs → i < length ys →
    ys ≡ map (λ b. max b 32) (take i xs) ++ drop i xs → y ≡ max (get_or ys i 0) 32 →
    set ys i y ≡ map (λ b. max b 32) (take (i + 1) xs) ++ drop (i + 1) xs
cleared_more xs ys i y h within is made =
    ap (set ys i) made
    ∙ map_over_more (λ b. max b 32) xs ys i (get_or ys i 0) h is
    (get_or_default ys i 0 (get_or ys i 0) within)

-- a text that was laid after the front of a line, where it ends inside the room
pub laid_after : (front text before after : List ℕ) (at end : ℕ) → take at before ≡ front →
    Lays text at before end after → end < length before → length before ≤ 2 ^ 64 - 1 →
    take end after ≡ front ++ text
unfolding Lays
laid_after front text before after at end is lays room most =
    let stops : end ≡ at + length text = omega (arith, lays.0, room, most) in
    let size : length (take at before ++ text) ≡ end =
    length-append (take at before) text
    ∙ omega (arith, length-take-le at before (omega arith), stops)
    in
    ap (take end) (lays.1 most ∙ laid_within at text before (omega (arith, room, stops))
    ∙ sym (append_assoc (take at before) text (drop (at + length text) before)))
    ∙ take_at (take at before ++ text) (drop (at + length text) before) end size
    ∙ ap (λ l. l ++ text) is

-- the front of a line that was given more room
pub front_stays : (at n k : ℕ) (old : List ℕ) → at ≤ n → at ≤ length old →
    take at (take n old ++ replicate k 0) ≡ take at old
front_stays at n k old h has =
    take-append-le at (take n old) (replicate k 0) (omega (arith, length-take n old, h, has))
    ∙ take-take at n old h

pub lays_stop : (text before after : List ℕ) (at end : ℕ) → Lays text at before end after →
    end ≡ text_end at text
unfolding Lays
lays_stop text before after at end lays = lays.0

pub lays_keeps : (text before after : List ℕ) (at end : ℕ) → Lays text at before end after →
    length before ≤ 2 ^ 64 - 1 → length after ≡ length before
unfolding Lays
lays_keeps text before after at end lays most =
    ap length (lays.1 most) ∙ length-laid at text before

take_laid : (at : ℕ) (text slice : List ℕ) → take at (laid at text slice) ≡ take at slice
take_laid zero text slice = refl
take_laid (suc at) text [] = refl
take_laid (suc at) text (b ∷ slice) = ap (λ l. b ∷ l) (take_laid at text slice)

-- what stands before a text stays
pub front_kept : (text before after : List ℕ) (at end : ℕ) → Lays text at before end after →
    length before ≤ 2 ^ 64 - 1 → take at after ≡ take at before
unfolding Lays
front_kept text before after at end lays most =
    ap (take at) (lays.1 most) ∙ take_laid at text before

-- the front of a line of which more was changed
pub front_mapped : (f : ℕ → ℕ) (n m : ℕ) (xs ys rest : List ℕ) → n ≤ m → m ≤ length xs →
    ys ≡ map f (take m xs) → take n (ys ++ rest) ≡ map f (take n xs)
front_mapped f n m xs ys rest h k e =
    take-append-le n ys rest
    (omega (arith, ap length e, length-map (take m xs) f, length-take m xs, h, k))
    ∙ ap (take n) e ∙ take-map f n (take m xs) ∙ ap (map f) (take-take n m xs h)
