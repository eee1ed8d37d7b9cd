use Rattle.std.proofs.Common.{ap}
use Rattle.std.specs.Ordering.{is_eq}
use Rattle.data_slices.proofs.Same.{not_less}
use Rattle.data_slices.proofs.missing.is_same_as.Goals as goal

pub is_same_payload-requires-clause-second : goal.is_same_payload-requires-clause-second
is_same_payload-requires-clause-second c = rw c.in-Unit.is at c.requires.second

pub is_same_payload-requires-clause-order : goal.is_same_payload-requires-clause-order
is_same_payload-requires-clause-order c = rw c.in-Unit.is at c.requires.order

pub returns-in-Announce : goal.returns-in-Announce
returns-in-Announce c = rw (c.in-Unit.is, c.in-Announce.is) c.is_same_payload.ensures

pub returns-in-Withdraw : goal.returns-in-Withdraw
returns-in-Withdraw c =
    rw (c.in-Unit.is, c.in-Withdraw.is) (ap is_eq (rw c.in-Unit.is at c.requires.order))

pub returns-in-End : goal.returns-in-End
returns-in-End c = absurd (not_less (rw c.in-End.is at c.requires.order))
