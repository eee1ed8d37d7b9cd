use Rattle.session_group.proofs.Showing.{in_order, leaves_none}
use Rattle.session_group.proofs.laws.asked_in_order.Goals as goal

pub returns-clause-runs : goal.returns-clause-runs
returns-clause-runs x count s ms g c run = in_order count s ms g c run

pub returns-clause-none : goal.returns-clause-none
returns-clause-none x count s ms g c run = leaves_none count s ms g c run
