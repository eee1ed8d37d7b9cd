use Rattle.rtr_base.proofs.Numbers.{slice_cmp-words}
use Rattle.rtr_payload.proofs.laws.provider_order.Goals as goal

pub returns : goal.returns
returns c = slice_cmp-words
