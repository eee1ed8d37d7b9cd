use Rattle.std.proofs.Common.{◌≤◌, ◌*◌, ◌+◌, List, length}
use Rattle.data_history.specs.Snapshots.{GoesBack, Snapshot}
use Rattle.data_history.proofs.Listing.{Counted}
use Rattle.data_history.proofs.serials.steps_in.Given as goal

abbrev pub invariant-steps : goal.invariant-steps
invariant-steps l =
    ((x : Snapshot) (ys : List Snapshot) → GoesBack l.fn.steps x ys →
    Counted l.rest l.count (length ys))
    × (16 * l.count + length l.rest ≤ length l.fn.steps)

abbrev pub decreases-steps : goal.decreases-steps
decreases-steps l = length l.rest
