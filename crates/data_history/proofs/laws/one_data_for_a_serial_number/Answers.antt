use Rattle.data_history.proofs.Storing.{found}
use Rattle.data_history.proofs.laws.one_data_for_a_serial_number.Goals as goal

pub returns : goal.returns
returns c = found
