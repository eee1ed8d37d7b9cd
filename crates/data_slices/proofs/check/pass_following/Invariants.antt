use Rattle.std.proofs.Common.{length}
use Rattle.data_slices.proofs.Passing.{PassingUnits}
use Rattle.data_slices.proofs.check.pass_following.Given as goal

abbrev pub invariant-units : goal.invariant-units
invariant-units l = PassingUnits l.fn.view l.fn.left l.last l.rest

abbrev pub decreases-units : goal.decreases-units
decreases-units l = length l.rest
