use Rattle.session_router.proofs.laws.tidy_connections.Goals as goal
use Rattle.session_router.proofs.Tidy.{tidy}

pub returns : goal.returns
returns c k ms r h run = tidy k ms r h run
