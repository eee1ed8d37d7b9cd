use Rattle.session_group.proofs.Showing.{best_of_run, shows_best}
use Rattle.session_group.proofs.laws.best_data_shown.Goals as goal

pub returns-clause-shown : goal.returns-clause-shown
returns-clause-shown x count s ms g c run = shows_best count s ms g c run

pub returns-clause-best : goal.returns-clause-best
returns-clause-best x count s ms g c run = best_of_run count s ms g c run
