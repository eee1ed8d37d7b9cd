use Rattle.session_server.proofs.Paces.{tick_acts}
use Rattle.session_server.proofs.laws.ticks_act.Goals as goal

pub returns : goal.returns
returns c = tick_acts
