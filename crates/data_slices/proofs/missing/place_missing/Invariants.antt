use Rattle.std.proofs.Common.{◌+◌, length}
use Rattle.data_slices.proofs.Merging.{Merging}
use Rattle.data_slices.proofs.missing.place_missing.Given as goal

abbrev pub invariant-units : goal.invariant-units
invariant-units l =
    Merging l.version l.action l.fn.these l.fn.those l.these_rest l.those_rest l.initial.output
    l.output l.written

abbrev pub decreases-units : goal.decreases-units
decreases-units l = length l.these_rest + length l.those_rest
