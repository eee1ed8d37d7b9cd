use Rattle.make_work.proofs.Takings.{AssertsFirst}
use Rattle.make_work.proofs.gathering.take_entries.Given as goal

abbrev pub invariant-loop-entry : goal.invariant-loop-entry
invariant-loop-entry l = AssertsFirst l.entries l.entry-index l.initial.gathering l.gathering
