use Rattle.std.proofs.Common.{length}
use Rattle.data_history.proofs.Steps.{LedSoFar}
use Rattle.data_history.proofs.known.leads_back.Given as goal

abbrev pub invariant-steps : goal.invariant-steps
invariant-steps l = LedSoFar l.fn.steps l.rest l.fn.present l.serial l.fn.wanted

abbrev pub decreases-steps : goal.decreases-steps
decreases-steps l = length l.rest
