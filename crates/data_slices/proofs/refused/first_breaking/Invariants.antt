use Rattle.std.proofs.Common.{length}
use Rattle.data_slices.proofs.Refusing.{Going}
use Rattle.data_slices.proofs.refused.first_breaking.Given as goal

abbrev pub invariant-units : goal.invariant-units
invariant-units l = Going l.rule l.fn.these l.fn.those l.these_rest l.those_rest

abbrev pub decreases-units : goal.decreases-units
decreases-units l = length l.these_rest
