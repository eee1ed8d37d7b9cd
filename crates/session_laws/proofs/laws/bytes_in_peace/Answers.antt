use Rattle.session_laws.proofs.Agreeing.{in_peace}
use Rattle.session_laws.proofs.laws.bytes_in_peace.Goals as goal

pub returns : goal.returns
returns g c w n input later start end a after applies one run is heard listens fresh soon
    peaceful =
    in_peace c applies w run one n input later start end a after is heard listens fresh soon
    peaceful
