use Rattle.std.proofs.Common.{length}
use Rattle.data_slices.proofs.Deciding.{Deciding}
use Rattle.data_slices.proofs.allowing.first_disallowed.Given as goal

abbrev pub invariant-offsets : goal.invariant-offsets
invariant-offsets l = Deciding l.fn.«data» l.fn.input l.fn.offsets l.rest l.data_rest l.last l.found

abbrev pub decreases-offsets : goal.decreases-offsets
decreases-offsets l = length l.rest
