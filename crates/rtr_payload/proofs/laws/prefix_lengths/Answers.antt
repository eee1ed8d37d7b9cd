use Rattle.rtr_payload.proofs.Rests.{agree_kept, agree_from}
use Rattle.rtr_payload.proofs.laws.prefix_lengths.Goals as goal

pub returns : goal.returns
returns c = λ u. (agree_from u, agree_kept u)
