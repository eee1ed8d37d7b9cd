use Rattle.data_slurm.specs.Overlaps.{files_overlap}
use Rattle.data_slurm.proofs.TestedSoFar.{TestedSoFar}
use Rattle.data_slurm.proofs.slurm.files_overlap.Given as goal

abbrev pub invariant-loop-entry : goal.invariant-loop-entry
invariant-loop-entry l = TestedSoFar (λ es. files_overlap es l.fn.others) l.fn.entries l.entry-index
