-- What the program is asked for by the words after its name: this program's own.
use Rattle.std.specs.Prelude.{ℕ, Option, Some, None, List, [], ◌∷◌, map}
use Rattle.std.specs.Prelude.{codes, bytes_eq, if◌then◌else◌}
use Rattle.std.specs.Prelude.{String, string_bytes}
use Rattle.rtr_wire.specs.Sequences.{Output, everything, for_version}

-- the number of a version asks for what that version has, and any other text for nothing
abbrev pub asked_version : List ℕ → Option Output
asked_version text =
    if bytes_eq text (codes "0") then Some (for_version 0) else
    if bytes_eq text (codes "1") then Some (for_version 1) else
    if bytes_eq text (codes "2") then Some (for_version 2) else None

-- What is to be written, by the texts of the words: everything without words, what a version has
-- with `--version` and its number. All other words ask for nothing.
abbrev pub asked_texts : List (List ℕ) → Option Output
asked_texts [] = Some everything
asked_texts (flag ∷ text ∷ []) =
    if bytes_eq flag (codes "--version") then asked_version text else None
asked_texts others = None

-- the same by the words
abbrev pub asked : {Z : Type 0} → List (String Z) → Option Output
asked words = asked_texts (map string_bytes words)
