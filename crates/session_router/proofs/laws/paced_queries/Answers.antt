use Rattle.session_router.proofs.laws.paced_queries.Goals as goal
use Rattle.session_router.proofs.Pacing.{paced}

pub returns : goal.returns
returns c k ms r h run timed = paced k ms r h run timed
