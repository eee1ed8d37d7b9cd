use Rattle.data_slurm.proofs.TestedSoFar.{TestedSoFar}
use Rattle.data_slurm.specs.Overlaps.{overlaps_some}
use Rattle.data_slurm.proofs.slurm.overlaps_some.Given as goal

abbrev pub invariant-loop-other : goal.invariant-loop-other
invariant-loop-other l =
    TestedSoFar (λ fs. overlaps_some fs l.fn.entry) l.fn.entries l.other-index
