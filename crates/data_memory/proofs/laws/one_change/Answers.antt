use Rattle.data_memory.proofs.Changes.{after_data, announced_has, withdrawn_has}
use Rattle.data_memory.proofs.laws.one_change.Goals as goal

pub returns-clause-ordered : goal.returns-clause-ordered
returns-clause-ordered c = after_data

pub returns-clause-announced : goal.returns-clause-announced
returns-clause-announced c = announced_has

pub returns-clause-withdrawn : goal.returns-clause-withdrawn
returns-clause-withdrawn c = withdrawn_has
