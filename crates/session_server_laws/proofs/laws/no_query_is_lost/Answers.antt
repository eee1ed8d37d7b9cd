use Rattle.session_server_laws.proofs.Talking.{tells_in_order}
use Rattle.session_server_laws.proofs.laws.no_query_is_lost.Goals as goal

pub returns : goal.returns
returns c = tells_in_order
