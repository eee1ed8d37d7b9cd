use Rattle.std.proofs.Common.{length}
use Rattle.data_slices.proofs.Checking.{Checked}
use Rattle.data_slices.proofs.check.check_data.Given as goal

abbrev pub invariant-items : goal.invariant-items
invariant-items l = Checked l.fn.input l.rest l.last

abbrev pub decreases-items : goal.decreases-items
decreases-items l = length l.rest
