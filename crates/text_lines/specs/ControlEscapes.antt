-- Escapes for the control characters that JSON lets stand as they are and terminals obey: U+007F to
-- U+009F, in UTF-8 the byte 127, and 194 before one of 128 to 159 (RFC 3629 section 3).
use Rattle.std.specs.Prelude.{ℕ, ◌==◌, ◌&&◌, Bool, nat_le, List, [], ◌∷◌, ◌++◌, codes}
use Rattle.std.specs.Prelude.{if◌then◌else◌}
use Rattle.hex.specs.Hex.{encode_lower}

-- the character with this number, which one byte holds, as \u007f (RFC 8259 section 7)
abbrev pub unicode_escape : ℕ → List ℕ
unicode_escape c = codes "\\u00" ++ encode_lower (c ∷ [])

-- a byte that is a character alone, or a part of one that stays
abbrev pub byte_form : ℕ → List ℕ
byte_form b = if b == 127 then unicode_escape 127 else b ∷ []

-- whether these two bytes are one of U+0080 to U+009F
abbrev pub is_control_pair : ℕ → ℕ → Bool
is_control_pair lead b = (lead == 194) && (nat_le 128 b && nat_le b 159)

-- the text with an escape in place of each of these characters
unfoldable pub escaped : List ℕ → List ℕ
escaped [] = []
escaped (b ∷ []) = byte_form b
escaped (b ∷ next ∷ rest) =
    if is_control_pair b next then unicode_escape next ++ escaped rest
    else byte_form b ++ escaped (next ∷ rest)
