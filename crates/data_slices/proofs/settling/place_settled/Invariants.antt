use Rattle.std.proofs.Common.{length}
use Rattle.data_slices.proofs.Going.{Settling}
use Rattle.data_slices.proofs.settling.place_settled.Given as goal

abbrev pub invariant-offsets : goal.invariant-offsets
invariant-offsets l =
    Settling l.action l.fn.input l.fn.offsets l.view l.rest l.first l.initial.output l.output
    l.written

abbrev pub decreases-offsets : goal.decreases-offsets
decreases-offsets l = length l.rest
