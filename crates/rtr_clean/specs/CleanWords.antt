-- What the program is asked for by the words after its name: this program's own.
use Rattle.std.specs.Prelude.{ℕ, Option, Some, None, List, [], ◌∷◌, map}
use Rattle.std.specs.Prelude.{codes, bytes_eq, if◌then◌else◌}
use Rattle.std.specs.Prelude.{String, string_bytes}
use Rattle.rtr_wire.specs.Sequences.{Output, everything, for_version}

-- the number of a version asks for what that version has, and any other text for nothing
abbrev pub version_asked : List ℕ → Option Output
version_asked text =
    if bytes_eq text (codes "0") then Some (for_version 0) else
    if bytes_eq text (codes "1") then Some (for_version 1) else
    if bytes_eq text (codes "2") then Some (for_version 2) else None

-- What is to be written, by the texts of the words: everything without words, what a version has
-- with `--version` and its number. All other words ask for nothing.
abbrev pub form_asked_by_texts : List (List ℕ) → Option Output
form_asked_by_texts [] = Some everything
form_asked_by_texts (flag ∷ text ∷ []) =
    if bytes_eq flag (codes "--version") then version_asked text else None
form_asked_by_texts others = None

-- the same by the words
abbrev pub form_asked : {Z : Type 0} → List (String Z) → Option Output
form_asked words = form_asked_by_texts (map string_bytes words)
