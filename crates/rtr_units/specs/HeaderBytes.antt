-- A header as the list of its bytes (RFC 8210 section 5.1), and lists of bytes of a known length.
use Rattle.std.specs.Prelude.{◌≡◌, ℕ, List, length}
use Rattle.rtr_base.specs.Bytes.{IsBytes}
use Rattle.rtr_units.specs.declared.header.Header.{Header}

abbrev pub header_bytes : Header → List ℕ
header_bytes h = h.cells.bytes

-- a list of n bytes
abbrev pub AreBytes : ℕ → List ℕ → Type 0
AreBytes n bs = (length bs ≡ n) × IsBytes bs
