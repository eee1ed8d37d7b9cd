use Rattle.std.proofs.Common.{◌+◌, length}
use Rattle.data_slices.proofs.Applying.{Along}
use Rattle.data_slices.proofs.applied.place_applied.Given as goal

abbrev pub invariant-units : goal.invariant-units
invariant-units l =
    Along l.fn.old l.fn.announced l.fn.withdrawn l.old_rest l.new_rest l.withdrawn_rest
    l.initial.output l.output l.written l.bound

abbrev pub decreases-units : goal.decreases-units
decreases-units l = length l.old_rest + length l.new_rest
