use Rattle.std.proofs.Common.{length}
use Rattle.data_slices.proofs.Composing.{Composing}
use Rattle.data_slices.proofs.made.place_made.Given as goal

abbrev pub invariant-offsets : goal.invariant-offsets
invariant-offsets l =
    Composing l.fn.«data» l.fn.input l.fn.offsets l.rest l.data_rest l.initial.output l.output
    l.written

abbrev pub decreases-offsets : goal.decreases-offsets
decreases-offsets l = length l.rest
