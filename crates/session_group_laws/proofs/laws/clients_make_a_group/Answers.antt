use Rattle.session_group_laws.proofs.Told.{is_group_run}
use Rattle.session_group_laws.proofs.laws.clients_make_a_group.Goals as goal

pub returns-clause-run : goal.returns-clause-run
returns-clause-run x count s ms g c xs run = is_group_run count s ms g c xs run

pub returns-clause-shown : goal.returns-clause-shown
returns-clause-shown x count s ms g c xs run =
    x.best_data_shown.ensures.shown count s ms g c (is_group_run count s ms g c xs run)

pub returns-clause-best : goal.returns-clause-best
returns-clause-best x count s ms g c xs run =
    x.best_data_shown.ensures.best count s ms g c (is_group_run count s ms g c xs run)

pub returns-clause-runs : goal.returns-clause-runs
returns-clause-runs x count s ms g c xs run =
    x.asked_in_order.ensures.runs count s ms g c (is_group_run count s ms g c xs run)

pub returns-clause-none : goal.returns-clause-none
returns-clause-none x count s ms g c xs run =
    x.asked_in_order.ensures.none count s ms g c (is_group_run count s ms g c xs run)
