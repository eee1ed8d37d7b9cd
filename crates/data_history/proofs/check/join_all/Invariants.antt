use Rattle.std.proofs.Common.{◌≡◌, ◌≢◌, length}
use Rattle.rtr_units.specs.AnyEnd.{end_meaning}
use Rattle.data_history.specs.Snapshots.{Snapshot}
use Rattle.data_history.proofs.Checking.{IsChecked}
use Rattle.data_history.proofs.Joining.{RoomSoFar}
use Rattle.data_history.proofs.check.join_all.Given as goal

abbrev pub invariant-steps : goal.invariant-steps
invariant-steps l =
    ((x : Snapshot) → end_meaning l.fn.newest ≡ x.end →
    IsChecked l.fn.steps l.rest l.buffer l.size l.last x)
    × RoomSoFar l.fn.steps l.rest l.buffer l.size
    × (length l.fn.steps ≢ 0 → length l.rest ≢ 0)

abbrev pub decreases-steps : goal.decreases-steps
decreases-steps l = length l.rest
