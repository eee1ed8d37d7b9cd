use Rattle.std.proofs.Common.{length}
use Rattle.data_history.proofs.Joining.{JoinedSoFar, RoomSoFar}
use Rattle.data_history.proofs.join.join_into.Given as goal

abbrev pub invariant-steps : goal.invariant-steps
invariant-steps l =
    JoinedSoFar l.fn.steps l.rest l.buffer l.fn.wanted l.size
    × RoomSoFar l.fn.steps l.rest l.buffer l.size

abbrev pub decreases-steps : goal.decreases-steps
decreases-steps l = length l.rest
