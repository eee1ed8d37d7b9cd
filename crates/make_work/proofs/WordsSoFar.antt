-- What is left to say of words of which some were taken.
use Rattle.std.proofs.Common.{◌≡◌, ℕ, ◌+◌, ◌<◌, suc, List, [], ◌∷◌, map, length, drop, get_or}
use Rattle.std.proofs.Common.{Option, Some, None, option_map, String, string_bytes, drop-cons}
use Rattle.std.proofs.Common.{refl, sym, ap, ◌∙◌, arith}
use Rattle.std.specs.Option.{option_and_then}
use Rattle.make_work.specs.MakeWords.{said_alone, said_by, said_with, setting_named}
use Rattle.make_work.specs.PrivateWords.{taken_alone, word_taken}
use Rattle.make_work.specs.declared.words.Said.{Said}
use Rattle.make_work.specs.declared.words.Setting.{Setting}

-- what the rest of the words says, after an option that waits for its text
abbrev pub said_from : Option Setting → List (List ℕ) → Said → Option Said
said_from None words s = said_by words s
said_from (Some setting) [] s = None
said_from (Some setting) (text ∷ rest) s = option_and_then (said_by rest) (said_with setting text s)

-- what it says after one more word that was taken, or wasn't
abbrev pub said_on : List (List ℕ) → Option (Said × Option Setting) → Option Said
said_on rest None = None
said_on rest (Some p) = said_from p.1 rest p.0

on_text : (o : Option Said) (rest : List (List ℕ)) →
    said_on rest (option_map (λ said. (said, None)) o) ≡ option_and_then (said_by rest) o
on_text None rest = refl
on_text (Some s) rest = refl

last : (o : Option Said) → said_on [] (option_map (λ said. (said, None)) o) ≡ o
last None = refl
last (Some s) = refl

by_word : (o : Option Setting) (word : List ℕ) (rest : List (List ℕ)) (s : Said) →
    setting_named word ≡ o → said_on rest (taken_alone o word s) ≡ said_by (word ∷ rest) s
by_word (Some setting) word [] s e = rw e refl
by_word (Some setting) word (text ∷ rest) s e = rw e refl
by_word None word [] s e = rw e (last (said_alone word s))
by_word None word (text ∷ rest) s e = rw e (on_text (said_alone word s) (text ∷ rest))

pub one_more : (before : Option Setting) (word : List ℕ) (rest : List (List ℕ)) (s : Said) →
    said_on rest (word_taken before word s) ≡ said_from before (word ∷ rest) s
one_more None word rest s = by_word (setting_named word) word rest s refl
one_more (Some setting) word rest s = on_text (said_with setting word s) rest

-- the words that are left, of which one is taken
pub steps : {Z : Type 0} (words : List (String Z)) (i : ℕ) (x : String Z)
    (before after : Option Setting) (s t : Said) (all : Option Said) → i < length words →
    x ≡ get_or words i x → word_taken before (string_bytes x) s ≡ Some (t, after) →
    said_from before (map string_bytes (drop i words)) s ≡ all →
    said_from after (map string_bytes (drop (i + 1) words)) t ≡ all
steps words i x before after s t all small is taken so_far =
    let next : suc i ≡ i + 1 = omega arith in
    let left : drop i words ≡ x ∷ drop (i + 1) words =
    drop-cons words i x small ∙ ap (λ y. y ∷ drop (suc i) words) (sym is)
    ∙ ap (λ j. x ∷ drop j words) next in
    let rest = map string_bytes (drop (i + 1) words) in
    ap (said_on rest) (sym taken) ∙ one_more before (string_bytes x) rest s
    ∙ ap (λ l. said_from before (map string_bytes l) s) (sym left) ∙ so_far

-- words of which one isn't taken
pub stops : {Z : Type 0} (words : List (String Z)) (i : ℕ) (x : String Z)
    (before : Option Setting) (s : Said) (all : Option Said) → i < length words →
    x ≡ get_or words i x → word_taken before (string_bytes x) s ≡ None →
    said_from before (map string_bytes (drop i words)) s ≡ all → all ≡ None
stops words i x before s all small is taken so_far =
    let next : suc i ≡ i + 1 = omega arith in
    let left : drop i words ≡ x ∷ drop (i + 1) words =
    drop-cons words i x small ∙ ap (λ y. y ∷ drop (suc i) words) (sym is)
    ∙ ap (λ j. x ∷ drop j words) next in
    let rest = map string_bytes (drop (i + 1) words) in
    sym so_far ∙ ap (λ l. said_from before (map string_bytes l) s) left
    ∙ sym (one_more before (string_bytes x) rest s) ∙ ap (said_on rest) taken
