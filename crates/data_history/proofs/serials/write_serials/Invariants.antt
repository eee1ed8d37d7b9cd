use Rattle.std.proofs.Common.{List, length}
use Rattle.data_history.specs.Snapshots.{GoesBack, Snapshot}
use Rattle.data_history.proofs.Listing.{Listed}
use Rattle.data_history.proofs.serials.write_serials.Given as goal

abbrev pub invariant-steps : goal.invariant-steps
invariant-steps l =
    (x : Snapshot) (ys : List Snapshot) → GoesBack l.fn.steps x ys →
    Listed l.rest l.count ys l.output

abbrev pub decreases-steps : goal.decreases-steps
decreases-steps l = length l.rest
