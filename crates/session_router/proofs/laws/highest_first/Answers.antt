use Rattle.session_router.proofs.laws.highest_first.Goals as goal
use Rattle.session_router.proofs.Versions.{tries_highest}

pub returns : goal.returns
returns c k ms r h run = tries_highest k ms r h run
