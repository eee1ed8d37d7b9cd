-- What the program is asked for by the words after its name: this program's own.
use Rattle.std.specs.Prelude.{ℕ, Bool, false, not, ◌&&◌, ◌||◌, ◌==◌}
use Rattle.std.specs.Prelude.{Option, Some, None, List, [], ◌∷◌, map}
use Rattle.std.specs.Prelude.{codes, bytes_eq, if◌then◌else◌}
use Rattle.std.specs.Prelude.{String, string_bytes}
use Rattle.diff_work.specs.declared.words.Request.{Request}
use Rattle.diff_work.specs.declared.words.Form.{Form}
use Rattle.diff_work.specs.declared.words.Form.TheVariants.{Text, Json, Units}

-- a form, and the names of the old file and the new
pub record AskedFor : Type 0 where
  pub form : Form
  pub old : List ℕ
  pub new : List ℕ

abbrev pub asked_for : Request → AskedFor
asked_for a = record { form = a.form; old = a.old.now; new = a.new.now }

-- the form that a word asks for
abbrev pub form_by_word : List ℕ → Option Form
form_by_word word =
    if bytes_eq word (codes "--json") then Some Json else
    if bytes_eq word (codes "--units") then Some Units else None

-- standard input, by its name
abbrev pub is_standard_input : List ℕ → Bool
is_standard_input word = bytes_eq word (codes "-")

abbrev pub begins_with_dash : List ℕ → Bool
begins_with_dash [] = false
begins_with_dash (c ∷ rest) = c == 45

-- a name of a file: `-`, or one that doesn't begin with it
abbrev pub is_file_name : List ℕ → Bool
is_file_name word = is_standard_input word || not (begins_with_dash word)

-- both are names, and not both are standard input
abbrev pub two_files : Form → List ℕ → List ℕ → Option AskedFor
two_files form old new =
    if is_file_name old && is_file_name new
    && not (is_standard_input old && is_standard_input new)
    then Some (record { form = form; old = old; new = new }) else None

abbrev pub in_form : Option Form → List ℕ → List ℕ → Option AskedFor
in_form (Some form) old new = two_files form old new
in_form None old new = None

-- Lines for people of two files; JSON after `--json`, units after `--units`. All other words ask
-- for nothing.
abbrev pub asked_by_texts : List (List ℕ) → Option AskedFor
asked_by_texts (old ∷ new ∷ []) = two_files Text old new
asked_by_texts (form ∷ old ∷ new ∷ []) = in_form (form_by_word form) old new
asked_by_texts others = None

-- the same by the words
abbrev pub asked_by_words : {Z : Type 0} → List (String Z) → Option AskedFor
asked_by_words words = asked_by_texts (map string_bytes words)
