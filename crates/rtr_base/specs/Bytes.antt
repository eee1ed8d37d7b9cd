-- Numbers as bytes in network order (RFC 8210 section 5).
use Rattle.std.specs.Prelude.{ℕ, ◌+◌, ◌*◌, ◌^◌, ◌<◌, List, [], ◌∷◌, length, get_or}
use Rattle.std.specs.Int.{bytes_high_first}
use Rattle.std.specs.List.{flat_map}

-- the k bytes of n, the highest first. Std's to_be_bytes w16, w32, w64, w128 compute to it at
-- k = 2, 4, 8, 16
abbrev pub be : ℕ → ℕ → List ℕ
be n k = bytes_high_first k n

-- the number that bytes say, the highest first
abbrev pub value : List ℕ → ℕ
value [] = 0
value (b ∷ bs) = b * 256 ^ length bs + value bs

-- a list of bytes
abbrev pub IsBytes : List ℕ → Type 0
IsBytes bs = (i : ℕ) → get_or bs i 0 < 256

-- four bytes for each number, in order
abbrev pub words : List ℕ → List ℕ
words ps = flat_map (λ p. be p 4) ps
