use Rattle.data_memory.proofs.Delta.{leads_to_new, no_changes}
use Rattle.data_memory.proofs.Once.{changes_apart}
use Rattle.data_memory.proofs.Needed.{all_named}
use Rattle.data_memory.proofs.Fewest.{fewest}
use Rattle.data_memory.proofs.laws.changes_lead_to_new.Goals as goal

pub returns-clause-leads : goal.returns-clause-leads
returns-clause-leads c = leads_to_new

pub returns-clause-nothing : goal.returns-clause-nothing
returns-clause-nothing c = no_changes

pub returns-clause-apart : goal.returns-clause-apart
returns-clause-apart c = changes_apart

pub returns-clause-needed : goal.returns-clause-needed
returns-clause-needed c = λ cs old new s leads. all_named cs old new s leads

pub returns-clause-fewest : goal.returns-clause-fewest
returns-clause-fewest c = fewest
