use Rattle.session_client.specs.Holding.{untold}
use Rattle.session_client_laws.proofs.Served.{takes_steps}
use Rattle.session_client_laws.proofs.laws.calls_take_steps.Goals as goal

pub returns : goal.returns
returns c a now k k' input held input' held' t =
    takes_steps now k input k' (untold k' input') a t.word t.is_told
