use Rattle.session_client_laws.proofs.Along.{runs_in_bytes}
use Rattle.session_client_laws.proofs.laws.runs_in_bytes.Goals as goal

pub returns : goal.returns
returns c p run = runs_in_bytes p run
