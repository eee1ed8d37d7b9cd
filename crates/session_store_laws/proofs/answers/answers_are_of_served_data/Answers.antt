use Rattle.session_store_laws.proofs.Sending.{sends_served}
use Rattle.session_store_laws.proofs.answers.answers_are_of_served_data.Goals as goal

pub returns : goal.returns
returns g s served had w are run =
    sends_served served had are w.turns
    (g.queries_are_answered_in_order.ensures s had w run).talk
