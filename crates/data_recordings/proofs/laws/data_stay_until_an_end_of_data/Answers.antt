use Rattle.data_recordings.proofs.KeptData.{stay}
use Rattle.data_recordings.proofs.laws.data_stay_until_an_end_of_data.Goals as goal

pub returns : goal.returns
returns c = stay
