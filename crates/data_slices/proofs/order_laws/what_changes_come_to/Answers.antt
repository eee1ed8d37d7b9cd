use Rattle.data_slices.proofs.Netting.{all_linked, nets_lead}
use Rattle.data_slices.proofs.order_laws.what_changes_come_to.Goals as goal

pub returns-clause-linked : goal.returns-clause-linked
returns-clause-linked c = all_linked

pub returns-clause-leads : goal.returns-clause-leads
returns-clause-leads c = λ cs ns d made s h decided n. nets_lead cs ns d made s h decided n
