use Rattle.session_server.proofs.Paces.{sends_whole}
use Rattle.session_server.proofs.laws.answers_are_sent_whole.Goals as goal

pub returns : goal.returns
returns c = sends_whole
