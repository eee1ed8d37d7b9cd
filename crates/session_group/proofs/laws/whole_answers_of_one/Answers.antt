use Rattle.session_group.proofs.Joined.{shows_whole}
use Rattle.session_group.proofs.laws.whole_answers_of_one.Goals as goal

pub returns : goal.returns
returns x c count s payloads ms g k ends run = shows_whole c count s payloads ms g k ends run
