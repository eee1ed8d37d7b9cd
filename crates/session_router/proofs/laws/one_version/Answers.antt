use Rattle.session_router.proofs.laws.one_version.Goals as goal
use Rattle.session_router.proofs.Versions.{one_version}

pub returns : goal.returns
returns c k ms r h run = one_version k ms r h run
