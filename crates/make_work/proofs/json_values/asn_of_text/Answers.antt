use Rattle.std.proofs.Common.{refl}
use Rattle.make_work.proofs.json_values.asn_of_text.Goals as goal

pub returns-in-Err : goal.returns-in-Err
returns-in-Err c = (refl, λ n is. c.in-Err.ensures.value n is.1)
