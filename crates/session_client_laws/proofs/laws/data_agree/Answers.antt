use Rattle.session_client_laws.proofs.Along.{shows_had}
use Rattle.session_client_laws.proofs.laws.data_agree.Goals as goal

pub returns : goal.returns
returns c p one run has = shows_had c.bytes_agree.ensures p one run has
