use Rattle.make_work.specs.JsonValues.{has_plus}
use Rattle.data_slurm.proofs.TestedSoFar.{TestedSoFar}
use Rattle.make_work.proofs.plus.has_plus.Given as goal

abbrev pub invariant-loop-byte : goal.invariant-loop-byte
invariant-loop-byte l = TestedSoFar has_plus l.fn.text l.byte-index
