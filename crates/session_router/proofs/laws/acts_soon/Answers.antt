use Rattle.session_router.proofs.laws.acts_soon.Goals as goal
use Rattle.session_router.proofs.Soon.{acts_soon}

pub returns : goal.returns
returns c k ms r h run timed = acts_soon k ms r h run timed
