-- Texts that are laid over a slice, one after the other, as far as it has room: this library's own.
use Rattle.std.specs.Prelude.{◌≡◌, ℕ, zero, suc, ◌+◌, ◌-◌, ◌^◌, ◌≤◌, List, [], ◌∷◌, length, min}

-- the slice with the text laid over its front, as far as it has room
abbrev pub over : List ℕ → List ℕ → List ℕ
over [] slice = slice
over (b ∷ text) [] = []
over (b ∷ text) (x ∷ slice) = b ∷ over text slice

-- the slice with the text laid over it from this place on, as far as it has room
abbrev pub laid : ℕ → List ℕ → List ℕ → List ℕ
laid zero text slice = over text slice
laid (suc at) text [] = []
laid (suc at) text (x ∷ slice) = x ∷ laid at text slice

-- where a text ends that begins at this place; it stays at the greatest number of 64 bits
abbrev pub text_end : ℕ → List ℕ → ℕ
text_end at text = min (at + length text) (2 ^ 64 - 1)

-- the text was laid over a slice from one place to the other, as far as there was room
unfoldable pub Lays : List ℕ → ℕ → List ℕ → ℕ → List ℕ → Type 0
Lays text at before stop after =
    (stop ≡ text_end at text) × (length before ≤ 2 ^ 64 - 1 → after ≡ laid at text before)
