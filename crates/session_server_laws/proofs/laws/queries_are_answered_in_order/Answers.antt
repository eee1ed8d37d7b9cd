use Rattle.session_server_laws.proofs.Talking.{answers_in_order}
use Rattle.session_server_laws.proofs.laws.queries_are_answered_in_order.Goals as goal

pub returns : goal.returns
returns c = answers_in_order
