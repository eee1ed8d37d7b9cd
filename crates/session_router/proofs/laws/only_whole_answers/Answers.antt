use Rattle.session_router.proofs.laws.only_whole_answers.Goals as goal
use Rattle.session_router.proofs.WholeAnswers.{whole_answers_allowed}

pub returns : goal.returns
returns c k ms r h run = whole_answers_allowed k ms r h run
