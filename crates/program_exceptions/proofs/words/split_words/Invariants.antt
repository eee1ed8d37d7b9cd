use Rattle.std.proofs.Common.{◌≡◌}
use Rattle.std.specs.Vec.Iter.{into_iter_items, into_iter_len}
use Rattle.program_exceptions.specs.Splitting.{words_split}
use Rattle.program_exceptions.proofs.SplitWords.{joined}
use Rattle.program_exceptions.proofs.words.split_words.Given as goal

-- the words and files so far, and those of the rest, are those of all words
abbrev pub invariant-loop-word : goal.invariant-loop-word
invariant-loop-word l =
    joined l.others.items l.files.items (words_split l.option l.valued (into_iter_items l.rest))
    ≡ words_split l.fn.option l.fn.valued l.fn.words.items

abbrev pub decreases-loop-word : goal.decreases-loop-word
decreases-loop-word l = into_iter_len l.rest
