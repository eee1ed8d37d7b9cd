use Rattle.std.proofs.Common.{rules, ◌≡◌, [], ◌∷◌, ◌++◌, true, false, ap, sym, ◌∙◌}
use Rattle.std.specs.Prelude.{bytes_eq, string_bytes}
use Rattle.std.specs.Vec.Iter.{into_iter_items}
use Rattle.program_exceptions.specs.Splitting.{words_split, with_word}
use Rattle.program_exceptions.proofs.SplitWords.{joined, joined_word, joined_file, split_file}
use Rattle.program_exceptions.proofs.SplitWords.{split_word, split_value}
use Rattle.program_exceptions.proofs.words.split_words.Goals as goal

-- the option, and its file
pub loop-word-preserved-then-eq : goal.loop-word-preserved-then-eq
loop-word-preserved-then-eq c =
    let word = c.in-Some.word in
    let file = c.in_ok-next.field-0 in
    let words = c.loop-word.others.items in
    let files = c.loop-word.files.items in
    let option = c.args.option.now in
    let valued = c.args.valued.now in
    let rest = into_iter_items c.next-then-eq.new.self in
    let pushed : c.push.new.self.items ≡ files ++ file ∷ [] = search rules in
    let front : into_iter_items c.loop-word.rest ≡ word ∷ file ∷ rest = search rules in
    let is : bytes_eq (string_bytes word) option ≡ true = search rules in
    ap (λ all. joined words all (words_split option valued rest)) pushed
    ∙ joined_file words files file (words_split option valued rest)
    ∙ ap (joined words files) (sym (split_file option valued word file rest is))
    ∙ ap (λ all. joined words files (words_split option valued all)) (sym front)
    ∙ c.loop-word.invariant

-- the valued option, and its value
pub loop-word-preserved-in_ok-ok-3 : goal.loop-word-preserved-in_ok-ok-3
loop-word-preserved-in_ok-ok-3 c =
    let word = c.in-Some.word in
    let value = c.in-Some-next.value in
    let words = c.loop-word.others.items in
    let files = c.loop-word.files.items in
    let option = c.args.option.now in
    let valued = c.args.valued.now in
    let rest = into_iter_items c.next-then-eq-2.new.self in
    let parts = words_split option valued rest in
    let first : c.push-then-eq-2.new.self.items ≡ words ++ word ∷ [] = search rules in
    let second : c.push-in-Some-next.new.self.items
    ≡ c.push-then-eq-2.new.self.items ++ value ∷ [] = search rules in
    let front : into_iter_items c.loop-word.rest ≡ word ∷ value ∷ rest = search rules in
    let not : bytes_eq (string_bytes word) option ≡ false = search rules in
    let is : bytes_eq (string_bytes word) valued ≡ true = search rules in
    ap (λ all. joined all files parts) (second ∙ ap (λ all. all ++ value ∷ []) first)
    ∙ joined_word (words ++ word ∷ []) files value parts
    ∙ joined_word words files word (with_word value parts)
    ∙ ap (joined words files) (sym (split_value option valued word value rest not is))
    ∙ ap (λ all. joined words files (words_split option valued all)) (sym front)
    ∙ c.loop-word.invariant

-- any other word
pub loop-word-preserved : goal.loop-word-preserved
loop-word-preserved c =
    let word = c.in-Some.word in
    let words = c.loop-word.others.items in
    let files = c.loop-word.files.items in
    let option = c.args.option.now in
    let valued = c.args.valued.now in
    let rest = into_iter_items c.next.new.self in
    let pushed : c.push-else-eq-2.new.self.items ≡ words ++ word ∷ [] = search rules in
    let front : into_iter_items c.loop-word.rest ≡ word ∷ rest = search rules in
    let not : bytes_eq (string_bytes word) option ≡ false = search rules in
    let isnt : bytes_eq (string_bytes word) valued ≡ false = search rules in
    ap (λ all. joined all files (words_split option valued rest)) pushed
    ∙ joined_word words files word (words_split option valued rest)
    ∙ ap (joined words files) (sym (split_word option valued word rest not isnt))
    ∙ ap (λ all. joined words files (words_split option valued all)) (sym front)
    ∙ c.loop-word.invariant
