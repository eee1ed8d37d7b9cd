-- Which word names a file: these programs' own.
use Rattle.std.specs.Prelude.{◌≡◌, ℕ, Bool, true, false, List, [], ◌∷◌, ◌++◌, ◌==◌, ◌||◌, not}
use Rattle.std.specs.Prelude.{Option, Some, None, slice_index, length}
use Rattle.std.specs.Prelude.{String, string_bytes}
use Rattle.std.specs.Fn.{FnOnceReturnsAt, Once}
use denote.Ref.{Bor}

-- an option begins with a hyphen; alone it stands for standard input
abbrev pub names_file : List ℕ → Bool
names_file word = (length word == 1) || not (slice_index word 0 == 45)

-- the words are those that are answered, and after them a name, which is answered too; there is
-- none where there is no word, or the last is an option
abbrev pub NamesFile : {Z : Type 0} → List (String Z) →
    Option (Bor (List (String Z)) × Bor (List ℕ)) → Type 0
NamesFile {Z} words (Some (before, name)) = (last : String Z)
    × (words ≡ before.now ++ last ∷ []) × (name.now ≡ string_bytes last)
    × (names_file name.now ≡ true)
NamesFile {Z} words None = (before : List (String Z)) (last : String Z) →
    words ≡ before ++ last ∷ [] → names_file (string_bytes last) ≡ false

-- reads_input says that nothing is read for the words before a last one that names a file
abbrev pub AsksForNone : {Z F : Type 0} → Once F (Bor (List (String Z)) × Unit {0}) Bool → F →
    List (String Z) → Type 0
AsksForNone {Z} once reads_input words = (before : List (String Z)) (last : String Z) →
    words ≡ before ++ last ∷ [] → names_file (string_bytes last) ≡ true →
    FnOnceReturnsAt once reads_input before false
