-- A list of bytes as a header and what follows.
use Rattle.std.proofs.Common.{◌≡◌, ℕ, ◌^◌, ◌<◌, ◌≤◌, List, ◌∷◌, ◌++◌}
use Rattle.std.proofs.Common.{length, drop, get_or, refl, arith}
use Rattle.rtr_base.specs.Bytes.{be, IsBytes}
use Rattle.rtr_base.proofs.Numbers.{IsBytes-cons, IsBytes-append, IsBytes-be}
use Rattle.rtr_base.proofs.Cuts.{cut_byte, cut_number, number_fits}
use Rattle.rtr_units.specs.Header.{header, version_field, type_field, session_field, length_field}

-- a unit with a session number in its header
pub header_read : (b rest : List ℕ) → IsBytes b → 8 ≤ length b → drop 8 b ≡ rest →
    b ≡ header (version_field b) (type_field b) (session_field b) (length_field b) ++ rest
header_read b rest h l e =
    cut_byte b _ 0 (omega arith)
    (cut_byte b _ 1 (omega arith)
    (cut_number b _ 2 2 h (omega arith) (cut_number b rest 4 4 h (omega arith) e)))

-- a unit with two bytes in their place
pub header_cells : (b rest : List ℕ) → IsBytes b → 8 ≤ length b → drop 8 b ≡ rest →
    b ≡ version_field b ∷ type_field b ∷ get_or b 2 0 ∷ get_or b 3 0 ∷ be (length_field b) 4 ++ rest
header_cells b rest h l e =
    cut_byte b _ 0 (omega arith)
    (cut_byte b _ 1 (omega arith)
    (cut_byte b _ 2 (omega arith)
    (cut_byte b _ 3 (omega arith) (cut_number b rest 4 4 h (omega arith) e))))

pub session_fits : (b : List ℕ) → IsBytes b → 8 ≤ length b → session_field b < 2 ^ 16
session_fits b h l = number_fits b 2 2 h (omega arith)

-- what follows a header does not change its fields
pub record SameHeader (h r : List ℕ) : Type 0 where
  pub version : version_field (h ++ r) ≡ version_field h
  pub kind : type_field (h ++ r) ≡ type_field h
  pub flags : get_or (h ++ r) 2 0 ≡ get_or h 2 0
  pub size : length_field (h ++ r) ≡ length_field h

pub same_header : (h r : List ℕ) → 8 ≤ length h → SameHeader h r
same_header (a ∷ b ∷ c ∷ d ∷ e ∷ f ∷ g ∷ i ∷ h) r l =
    record { version = refl; kind = refl; flags = refl; size = refl }
same_header h r l = absurd (omega arith)

pub header_bytes : (v t s n : ℕ) (rest : List ℕ) → v < 256 → t < 256 → IsBytes rest →
    IsBytes (header v t s n ++ rest)
header_bytes v t s n rest hv ht h =
    let tail = be s 2 ++ be n 4 ++ rest in
    let tail_bytes = IsBytes-append (be s 2) (be n 4 ++ rest) (IsBytes-be s 2)
    (IsBytes-append (be n 4) rest (IsBytes-be n 4) h) in
    IsBytes-cons v (t ∷ tail) hv (IsBytes-cons t tail ht tail_bytes)
