use Rattle.session_bytes.proofs.Heard.{acts_on_unit, keeps_on_units}
use Rattle.session_bytes.proofs.laws.what_is_told_is_heard.Goals as goal

pub returns-clause-kept : goal.returns-clause-kept
returns-clause-kept c = λ k ms r h n b after run heard kept.
    keeps_on_units n k ms h r b after run heard kept

pub returns-clause-acted : goal.returns-clause-acted
returns-clause-acted c = acts_on_unit
