use Rattle.data_slices.proofs.OneFlaw.{one_of_changes as changes_one, one_of_data as data_one}
use Rattle.data_slices.proofs.laws.flaws_in_slices.Goals as goal

pub returns-clause-one_of_data : goal.returns-clause-one_of_data
returns-clause-one_of_data c = data_one

pub returns-clause-one_of_changes : goal.returns-clause-one_of_changes
returns-clause-one_of_changes c = changes_one
