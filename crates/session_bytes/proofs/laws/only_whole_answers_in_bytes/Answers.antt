use Rattle.session_bytes.proofs.Whole.{only_whole}
use Rattle.session_bytes.proofs.laws.only_whole_answers_in_bytes.Goals as goal

pub returns : goal.returns
returns c k ms r h run heard applies = only_whole k ms r h run heard applies
