use Rattle.rtr_wire.proofs.Walking.{Walked}
use Rattle.rtr_wire.proofs.compare_slices.check.Given as goal

abbrev pub invariant-loop : goal.invariant-loop
invariant-loop l = Walked l.counter l.input l.rest
