use Rattle.std.proofs.Common.{length}
use Rattle.data_slices.specs.Items.{meant}
use Rattle.data_slices.specs.PrivateChanges.{GoesPast}
use Rattle.data_slices.proofs.refused.pass_below.Given as goal

abbrev pub invariant-units : goal.invariant-units
invariant-units l = GoesPast (meant l.first).payload l.rest l.fn.those

abbrev pub decreases-units : goal.decreases-units
decreases-units l = length l.rest
