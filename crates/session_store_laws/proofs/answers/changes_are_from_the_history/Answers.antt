use Rattle.session_store_laws.proofs.Answering.{finds, kept_had, writes}
use Rattle.session_store_laws.proofs.answers.changes_are_from_the_history.Goals as goal

pub returns-clause-finds : goal.returns-clause-finds
returns-clause-finds g = λ c after now size since input ended x ys p is heard.
    finds c after now size since input ended x ys p is heard

pub returns-clause-writes : goal.returns-clause-writes
returns-clause-writes g = λ had t since size history opening before after x ys h are has is at
    opened written bytes.
    writes had t since size history opening before after x ys h are has is at opened written bytes

pub returns-clause-stored : goal.returns-clause-stored
returns-clause-stored g = λ had stored history was are.
    kept_had g.what_is_stored_is_a_history.ensures had stored history was are
