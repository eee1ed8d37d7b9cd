use Rattle.data_slices.proofs.Answered.{leads}
use Rattle.data_slices.proofs.OneData.{one_data}
use Rattle.data_slices.proofs.laws.data_in_slices.Goals as goal

pub returns-clause-one : goal.returns-clause-one
returns-clause-one c = one_data

pub returns-clause-leads : goal.returns-clause-leads
returns-clause-leads c = leads
