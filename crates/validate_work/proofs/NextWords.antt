-- The words of a line, as they come one after the other.
use Rattle.std.proofs.Common.{◌≡◌, ℕ, ◌+◌, ◌<◌, ◌≤◌, List, ◌++◌, length, sym, ◌∙◌}
use Rattle.std.specs.Char.{is_ascii_whitespace}
use Rattle.std.specs.List.{AllPass}
use Rattle.std.specs.Str.{NoCharPasses}
use Rattle.std.specs.Str.Iter.{IsAsciiSeparator}
use Rattle.validate_work.specs.RouteTexts.{CutsWord}

-- what is known of the next word of these bytes, after which the rest is left
abbrev pub IsNextWord : (bytes word rest : List ℕ) → Type 0
IsNextWord bytes word rest = (0 < length word) × NoCharPasses is_ascii_whitespace word
    × (length word + length rest ≤ length bytes)
    × ((gap : List ℕ) × (sep : List ℕ) × (bytes ≡ gap ++ (word ++ (sep ++ rest)))
    × AllPass is_ascii_whitespace gap × IsAsciiSeparator sep rest)

pub cuts : (line bytes word rest : List ℕ) → bytes ≡ line → IsNextWord bytes word rest →
    CutsWord line word rest
cuts line bytes word rest is (some, whole, fits, (gap, sep, parts, blank, apart)) = record {
  gap = gap;
  after = sep;
  parts = sym is ∙ parts;
  before = blank;
  some = some;
  whole = whole;
  apart = apart;
}
