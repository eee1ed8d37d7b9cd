use Rattle.std.proofs.Common.{◌∷◌}
use Rattle.session_store_laws.proofs.FromServed.{editions, had_of_served, sends_changes}
use Rattle.session_store_laws.proofs.histories.changes_are_from_served_data.Goals as goal

pub returns-clause-sends : goal.returns-clause-sends
returns-clause-sends g = λ served t since size history opening before after x ys serves h is at
    opened written bytes.
    sends_changes served t since size history opening before after x ys
    (g.the_history_is_of_served_data.ensures.serves served history x ys serves h) h is at opened
    written bytes

pub returns-clause-writes : goal.returns-clause-writes
returns-clause-writes g = λ served had t since size history opening before after x ys serves h are
    has is at opened written bytes.
    g.changes_are_from_the_history.ensures.writes had t since size history opening before after x
    ys h
    (had_of_served had served (x ∷ ys) are
    (g.the_history_is_of_served_data.ensures.serves served history x ys serves h)) has is at opened
    written bytes

pub returns-clause-editions : goal.returns-clause-editions
returns-clause-editions g = λ served some has are. editions served some has are
