use Rattle.make_work.proofs.JsonSoFar.{some_part}
use Rattle.data_slurm.proofs.TestedSoFar.{TestedSoFar}
use Rattle.make_work.proofs.json_looks.has_part.Given as goal

abbrev pub invariant-loop-member : goal.invariant-loop-member
invariant-loop-member l = TestedSoFar (some_part l.part) l.members l.member-index
