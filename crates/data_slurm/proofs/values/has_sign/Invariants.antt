use Rattle.data_slurm.specs.SlurmValues.{has_sign}
use Rattle.data_slurm.proofs.TestedSoFar.{TestedSoFar}
use Rattle.data_slurm.proofs.values.has_sign.Given as goal

abbrev pub invariant-loop-byte : goal.invariant-loop-byte
invariant-loop-byte l = TestedSoFar has_sign l.fn.text l.byte-index
