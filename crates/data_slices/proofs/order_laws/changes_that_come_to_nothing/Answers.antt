use Rattle.data_slices.proofs.Cancelling.{announced_first, duplicate_first, unknown_first}
use Rattle.data_slices.proofs.Cancelling.{withdrawn_first}
use Rattle.data_slices.proofs.order_laws.changes_that_come_to_nothing.Goals as goal

pub returns-clause-withdrawn : goal.returns-clause-withdrawn
returns-clause-withdrawn c = withdrawn_first

pub returns-clause-announced : goal.returns-clause-announced
returns-clause-announced c = announced_first

pub returns-clause-unknown : goal.returns-clause-unknown
returns-clause-unknown c = unknown_first

pub returns-clause-duplicate : goal.returns-clause-duplicate
returns-clause-duplicate c = duplicate_first
