use Rattle.session_laws.proofs.Agreeing.{shows}
use Rattle.session_laws.proofs.laws.bytes_agree.Goals as goal

pub returns : goal.returns
returns g c w applies one run has = shows c applies w run one has
