use Rattle.std.proofs.Common.{length}
use Rattle.data_slices.proofs.Copying.{Copying}
use Rattle.data_slices.proofs.made.place_below.Given as goal

abbrev pub invariant-units : goal.invariant-units
invariant-units l = Copying l.bound l.fn.«data» l.rest l.initial.output l.output l.written

abbrev pub decreases-units : goal.decreases-units
decreases-units l = length l.rest
