use Rattle.session_cache.proofs.laws.peace.Goals as goal
use Rattle.session_cache.proofs.Peace.{peace}

pub returns : goal.returns
returns g c S w x rest n a after source one run is listens fresh soon peaceful step =
    peace g.row.D.Denot g.row.C.Denot S w source one x rest n a after run is
    listens fresh soon peaceful step
