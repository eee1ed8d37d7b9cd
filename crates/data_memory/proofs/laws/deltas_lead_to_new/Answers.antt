use Rattle.data_memory.proofs.Versions.{all_lead, delta_leads}
use Rattle.data_memory.proofs.laws.deltas_lead_to_new.Goals as goal

pub returns-clause-leads : goal.returns-clause-leads
returns-clause-leads c = delta_leads

pub returns-clause-all : goal.returns-clause-all
returns-clause-all c = all_lead
