use Rattle.rtr_payload.specs.Meanings.{payload_of}
use Rattle.data_slurm.specs.Filters.{removes}
use Rattle.data_slurm.proofs.TestedSoFar.{TestedSoFar}
use Rattle.data_slurm.proofs.slurm.removes.Given as goal

abbrev pub invariant-loop-entry : goal.invariant-loop-entry
invariant-loop-entry l =
    TestedSoFar (λ es. removes es (payload_of l.fn.payload)) l.fn.entries l.entry-index
