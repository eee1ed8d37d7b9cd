use Rattle.session_group.proofs.Recovering.{recovers}
use Rattle.session_group.proofs.laws.group_recovers.Goals as goal

pub returns : goal.returns
returns x count s ms g₀ c₀ i within start g c n run low began wait =
    recovers count s ms g₀ c₀ i within start g c n run low began wait
