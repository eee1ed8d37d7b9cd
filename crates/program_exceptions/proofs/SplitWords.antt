-- How words are split, a word at a time.
use Rattle.std.proofs.Common.{◌≡◌, ℕ, ◌++◌, [], ◌∷◌, List, Bool, true, false, Option, Some, None}
use Rattle.std.proofs.Common.{refl, ap, ◌∙◌}
use Rattle.std.specs.Prelude.{option_map, bytes_eq, cond, String, string_bytes}
use Rattle.std.proofs.lemmas.List.{append_assoc}
use Rattle.program_exceptions.specs.Splitting.{words_split, with_word, with_file}

-- with these words and files before those of the rest
abbrev pub joined : {Z : Type 0} → List (String Z) → List (String Z) →
    Option (List (String Z) × List (String Z)) → Option (List (String Z) × List (String Z))
joined words files = option_map (λ parts. (words ++ parts.0, files ++ parts.1))

pub joined_word : {Z : Type 0} (words files : List (String Z)) (word : String Z)
    (parts : Option (List (String Z) × List (String Z))) →
    joined (words ++ word ∷ []) files parts ≡ joined words files (with_word word parts)
joined_word words files word None = refl
joined_word words files word (Some parts) =
    ap (λ all. Some (all, files ++ parts.1)) (append_assoc words (word ∷ []) parts.0)

pub joined_file : {Z : Type 0} (words files : List (String Z)) (file : String Z)
    (parts : Option (List (String Z) × List (String Z))) →
    joined words (files ++ file ∷ []) parts ≡ joined words files (with_file file parts)
joined_file words files file None = refl
joined_file words files file (Some parts) =
    ap (λ all. Some (words ++ parts.0, all)) (append_assoc files (file ∷ []) parts.1)

-- which of three ways a test and a second one take
first_way : {A : Type 0} (a b : Bool) (x y z : A) → a ≡ true → cond a x (cond b y z) ≡ x
first_way a b x y z is = ap (λ t. cond t x (cond b y z)) is

second_way : {A : Type 0} (a b : Bool) (x y z : A) → a ≡ false → b ≡ true →
    cond a x (cond b y z) ≡ y
second_way a b x y z not is = ap (λ t. cond t x (cond b y z)) not ∙ ap (λ t. cond t y z) is

third_way : {A : Type 0} (a b : Bool) (x y z : A) → a ≡ false → b ≡ false →
    cond a x (cond b y z) ≡ z
third_way a b x y z not isnt = ap (λ t. cond t x (cond b y z)) not ∙ ap (λ t. cond t y z) isnt

pub split_file : {Z : Type 0} (option valued : List ℕ) (word file : String Z)
    (rest : List (String Z)) → bytes_eq (string_bytes word) option ≡ true →
    words_split option valued (word ∷ file ∷ rest)
    ≡ with_file file (words_split option valued rest)
split_file option valued word file rest is =
    let split = words_split option valued in
    first_way (bytes_eq (string_bytes word) option) (bytes_eq (string_bytes word) valued)
    (with_file file (split rest)) (with_word word (with_word file (split rest)))
    (with_word word (split (file ∷ rest))) is

pub split_value : {Z : Type 0} (option valued : List ℕ) (word value : String Z)
    (rest : List (String Z)) → bytes_eq (string_bytes word) option ≡ false →
    bytes_eq (string_bytes word) valued ≡ true →
    words_split option valued (word ∷ value ∷ rest)
    ≡ with_word word (with_word value (words_split option valued rest))
split_value option valued word value rest not is =
    let split = words_split option valued in
    second_way (bytes_eq (string_bytes word) option) (bytes_eq (string_bytes word) valued)
    (with_file value (split rest)) (with_word word (with_word value (split rest)))
    (with_word word (split (value ∷ rest))) not is

pub split_word : {Z : Type 0} (option valued : List ℕ) (word : String Z)
    (rest : List (String Z)) → bytes_eq (string_bytes word) option ≡ false →
    bytes_eq (string_bytes word) valued ≡ false →
    words_split option valued (word ∷ rest) ≡ with_word word (words_split option valued rest)
split_word option valued word [] not isnt = ap (λ t. cond t None (Some (word ∷ [], []))) not
split_word option valued word (next ∷ rest) not isnt =
    let split = words_split option valued in
    third_way (bytes_eq (string_bytes word) option) (bytes_eq (string_bytes word) valued)
    (with_file next (split rest)) (with_word word (with_word next (split rest)))
    (with_word word (split (next ∷ rest))) not isnt
