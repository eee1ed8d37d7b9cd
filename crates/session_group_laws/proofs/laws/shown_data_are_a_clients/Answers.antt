use Rattle.session_group_laws.proofs.ShownData.{all_have, shows_data}
use Rattle.session_group_laws.proofs.laws.shown_data_are_a_clients.Goals as goal

pub returns-clause-shown : goal.returns-clause-shown
returns-clause-shown x count s t bytes ms g c xs run =
    shows_data x.room_may_change.ensures x.asked_in_order.ensures.none
    x.best_data_shown.ensures.shown x.only_whole_answers_are_shown.ensures count s t bytes ms g c
    xs run

pub returns-clause-each : goal.returns-clause-each
returns-clause-each x count s t bytes ms g c xs m d run has =
    all_have x.asked_in_order.ensures.none count s t bytes ms g c xs run m d has
