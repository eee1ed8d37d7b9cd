-- How words are split into files and the other words: these programs' own.
use Rattle.std.specs.Prelude.{ℕ, List, [], ◌∷◌, Option, Some, None, option_map}
use Rattle.std.specs.Prelude.{bytes_eq, if◌then◌else◌, String, string_bytes}

-- the same with this word before the other words
abbrev pub with_word : {Z : Type 0} → String Z → Option (List (String Z) × List (String Z)) →
    Option (List (String Z) × List (String Z))
with_word word = option_map (λ parts. (word ∷ parts.0, parts.1))

-- the same with this file before the files
abbrev pub with_file : {Z : Type 0} → String Z → Option (List (String Z) × List (String Z)) →
    Option (List (String Z) × List (String Z))
with_file file = option_map (λ parts. (parts.0, file ∷ parts.1))

-- The other words and the files. The word after the option is a file, and has to be there. The word
-- after the valued option is its value, whatever it says.
abbrev pub words_split : {Z : Type 0} → List ℕ → List ℕ → List (String Z) →
    Option (List (String Z) × List (String Z))
words_split option valued [] = Some ([], [])
words_split option valued (word ∷ []) =
    if bytes_eq (string_bytes word) option then None else Some (word ∷ [], [])
words_split option valued (word ∷ next ∷ rest) =
    if bytes_eq (string_bytes word) option then with_file next (words_split option valued rest) else
    if bytes_eq (string_bytes word) valued
    then with_word word (with_word next (words_split option valued rest))
    else with_word word (words_split option valued (next ∷ rest))
