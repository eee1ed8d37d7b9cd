use Rattle.std.proofs.Common.{◌≡◌, drop, map, string_bytes}
use Rattle.make_work.specs.MakeWords.{nothing_said, said_by}
use Rattle.make_work.proofs.WordsSoFar.{said_from}
use Rattle.make_work.proofs.words.said_by.Given as goal

abbrev pub invariant-loop-word : goal.invariant-loop-word
invariant-loop-word l =
    said_from l.open (map string_bytes (drop l.word-index l.words)) l.said
    ≡ said_by (map string_bytes l.words) nothing_said
