use Rattle.json.specs.Value.{members_view}
use Rattle.data_slurm.proofs.TestedSoFar.{TestedSoFar}
use Rattle.data_slurm.specs.SlurmFiles.{some_unknown}
use Rattle.data_slurm.proofs.file.check_members.Given as goal

abbrev pub invariant-loop-member : goal.invariant-loop-member
invariant-loop-member l =
    TestedSoFar (λ ms. some_unknown l.form (members_view ms)) l.members l.member-index
