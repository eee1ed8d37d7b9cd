-- What is laid of a string of JSON, character by character: this library's own. Only contracts of
-- private functions cite these.
use Rattle.std.specs.Prelude.{◌≡◌, ℕ, ◌==◌, List, ◌++◌, if◌then◌else◌}
use Rattle.json.specs.Print.{escape_byte}
use Rattle.text_lines.specs.ControlEscapes.{unicode_escape}
use Rattle.text_lines.specs.Laying.{Lays}

-- what stands in a string for a byte that is a character alone, or a part of one that stays
abbrev pub string_form : ℕ → List ℕ
string_form b = if b == 127 then unicode_escape 127 else escape_byte b

-- the front of the text was laid, and the rest of it is left
abbrev pub LaysFront : (all left : List ℕ) → ℕ → List ℕ → ℕ → List ℕ → Type 0
LaysFront all left at before stop after =
    (front : List ℕ) × (front ++ left ≡ all) × Lays front at before stop after
