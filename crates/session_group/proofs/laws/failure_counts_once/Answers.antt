use Rattle.session_group.proofs.Failing.{fails_again, fails_once_lost}
use Rattle.session_group.proofs.Joined.{Joined, joined}
use Rattle.session_group.proofs.laws.failure_counts_once.Goals as goal

pub returns-clause-again : goal.returns-clause-again
returns-clause-again x count s ms g c m n run gave_way =
    fails_again count s ms g c m n run gave_way

pub returns-clause-loss : goal.returns-clause-loss
returns-clause-loss x g m n later = fails_once_lost g n m later

pub returns-clause-ends : goal.returns-clause-ends
returns-clause-ends x c count s payloads ms g k ends m n group gave_way =
    let j : Joined c count s payloads ms g k ends = joined c count s payloads ms g k ends group in
    fails_again count s ms g k m n j.run gave_way
