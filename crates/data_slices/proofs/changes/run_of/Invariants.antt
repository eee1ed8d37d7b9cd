use Rattle.std.proofs.Common.{length}
use Rattle.data_slices.proofs.Running.{Ran}
use Rattle.data_slices.proofs.changes.run_of.Given as goal

abbrev pub invariant-units : goal.invariant-units
invariant-units l = Ran l.action l.fn.before l.fn.input l.rest l.last l.version

abbrev pub decreases-units : goal.decreases-units
decreases-units l = length l.rest
