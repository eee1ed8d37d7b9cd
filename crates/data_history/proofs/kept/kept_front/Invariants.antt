use Rattle.std.proofs.Common.{◌≤◌, length}
use Rattle.data_history.proofs.Keeping.{KeptSoFar}
use Rattle.data_history.proofs.kept.kept_front.Given as goal

abbrev pub invariant-steps : goal.invariant-steps
invariant-steps l =
    KeptSoFar l.fn.steps l.rest l.kept l.fn.serial.0 l.fn.since × (l.kept ≤ l.fn.most)

abbrev pub decreases-steps : goal.decreases-steps
decreases-steps l = length l.rest
