use Rattle.session_group_laws.proofs.Told.{tells_taken}
use Rattle.session_group_laws.proofs.laws.calls_tell_actions.Goals as goal

pub returns : goal.returns
returns x a t p is = tells_taken a t p is
