use Rattle.session_router.proofs.laws.never_below_data.Goals as goal
use Rattle.session_router.proofs.Versions.{never_below_data}

pub returns : goal.returns
returns c k ms r h n x r' run went e has = never_below_data k ms r h n x r' run went e has
