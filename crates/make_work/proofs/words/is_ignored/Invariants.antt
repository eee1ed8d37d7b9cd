use Rattle.make_work.proofs.IgnoredSoFar.{NotYet}
use Rattle.make_work.proofs.words.is_ignored.Given as goal

abbrev pub invariant-loop-word : goal.invariant-loop-word
invariant-loop-word l = NotYet l.words l.fn.name l.word-index l.follows
