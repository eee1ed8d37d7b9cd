-- The head of a saved file (this library's own; the hash is FNV-1a in 64 bits).
use Rattle.std.specs.Prelude.{◌*◌, ◌%◌, ◌^◌, ◌++◌, ℕ, List, [], ◌∷◌, bit_xor, length}
use Rattle.rtr_base.specs.Bytes.{be}

-- the hash after these bytes, where it was h before them
abbrev pub fnv_from : ℕ → List ℕ → ℕ
fnv_from h [] = h
fnv_from h (b ∷ bs) = fnv_from ((bit_xor h b * 1099511628211) % 2 ^ 64) bs

abbrev pub fnv : List ℕ → ℕ
fnv b = fnv_from 14695981039346656037 b

-- "rtrkept" in ASCII, and the number of the form
abbrev pub kept_form : ℕ → List ℕ
kept_form n = 114 ∷ 116 ∷ 114 ∷ 107 ∷ 101 ∷ 112 ∷ 116 ∷ n ∷ []

-- the head before these bytes
unfoldable pub seal : List ℕ → List ℕ
seal s = kept_form 50 ++ be (length s) 8 ++ be (fnv s) 8

-- the head before them in a file of the form before
unfoldable pub old_head : List ℕ → List ℕ
old_head s = kept_form 49 ++ be (fnv s) 8
