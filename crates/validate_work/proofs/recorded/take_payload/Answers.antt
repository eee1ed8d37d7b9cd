use Rattle.std.proofs.Common.{refl}
use Rattle.validate_work.proofs.TakenPayloads.{took_payload}
use Rattle.validate_work.proofs.recorded.take_payload.Goals as goal

pub returns : goal.returns
returns c = took_payload c.take.result _ _ _ _ refl c.take.ensures
