use Rattle.validate_work.proofs.TakenPayloads.{taken_all}
use Rattle.validate_work.proofs.recorded.take_payloads.Goals as goal

pub returns : goal.returns
returns c =
    let parts = c.parts-origins.result in
    taken_all c.take_aspas.result c.args.payloads.now parts.0 parts.1 parts.2 _ _ _ _
    c.parts-origins.ensures.payloads c.in-Ok.ensures c.in-Ok-take_keys.ensures
    c.take_aspas.ensures
