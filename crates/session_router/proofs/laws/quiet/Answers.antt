use Rattle.session_router.proofs.laws.quiet.Goals as goal
use Rattle.session_router.proofs.Quiet.{quiet}

pub returns : goal.returns
returns c k ms r h run timed = quiet k ms r h run timed
