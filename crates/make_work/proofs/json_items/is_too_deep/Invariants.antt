use Rattle.std.proofs.Common.{◌≤◌, length}
use Rattle.make_work.proofs.json_items.is_too_deep.Given as goal

abbrev pub invariant-loop-token : goal.invariant-loop-token
invariant-loop-token l = l.open ≤ 128

abbrev pub decreases-loop-token : goal.decreases-loop-token
decreases-loop-token l = length l.reader
