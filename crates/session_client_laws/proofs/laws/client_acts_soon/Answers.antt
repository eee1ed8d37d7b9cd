use Rattle.session_client_laws.proofs.Called.{wakes}
use Rattle.session_client_laws.proofs.laws.client_acts_soon.Goals as goal

pub returns : goal.returns
returns c s k now run = wakes s k now run
