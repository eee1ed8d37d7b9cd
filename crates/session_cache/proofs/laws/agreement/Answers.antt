use Rattle.session_cache.proofs.laws.agreement.Goals as goal
use Rattle.session_cache.proofs.Agreement.{agreement}

pub returns : goal.returns
returns g c S w is one run has = agreement g.row.D.Denot g.row.C.Denot S w is one run has
