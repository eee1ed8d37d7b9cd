use Rattle.std.proofs.Common.{length}
use Rattle.data_slices.proofs.Going.{Refusing}
use Rattle.data_slices.proofs.settling.first_refusal.Given as goal

abbrev pub invariant-offsets : goal.invariant-offsets
invariant-offsets l = Refusing l.fn.input l.fn.offsets l.offset l.view l.rest l.first

abbrev pub decreases-offsets : goal.decreases-offsets
decreases-offsets l = length l.rest
