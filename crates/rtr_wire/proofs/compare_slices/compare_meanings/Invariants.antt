use Rattle.rtr_wire.proofs.SlicesCompared.{Both}
use Rattle.rtr_wire.proofs.compare_slices.compare_meanings.Given as goal

abbrev pub invariant-loop-count : goal.invariant-loop-count
invariant-loop-count l = Both l.count l.fn.left l.fn.right l.left_rest l.right_rest
