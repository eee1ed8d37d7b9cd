-- The header of a unit (RFC 8210 section 5.1, RFC 6810 section 5.1).
use Rattle.std.specs.Prelude.{ℕ, List, ◌∷◌, ◌++◌, take, drop, slice_index}
use Rattle.rtr_base.specs.Bytes.{be, value}

-- version, type, session, and the length of the whole unit
abbrev pub header : (v t s n : ℕ) → List ℕ
header v t s n = v ∷ t ∷ be s 2 ++ be n 4

-- ---- the fields of a unit's header, read off its bytes

abbrev pub version_field : List ℕ → ℕ
version_field u = slice_index u 0

abbrev pub type_field : List ℕ → ℕ
type_field u = slice_index u 1

abbrev pub session_field : List ℕ → ℕ
session_field u = value (take 2 (drop 2 u))

abbrev pub length_field : List ℕ → ℕ
length_field u = value (take 4 (drop 4 u))
