use Rattle.rtr_units.specs.AnyEnd.{end_meaning}
use Rattle.data_history.proofs.Advancing.{checks_first}
use Rattle.data_history.proofs.next.first_into.Goals as goal

pub returns-in-Ok-clause-flaw : goal.returns-in-Ok-clause-flaw
returns-in-Ok-clause-flaw c =
    let k = c.in-Ok.ensures.«data» in
    checks_first c.begin.result c.args.new.now c.begin.ensures.flaw
    (record { end = end_meaning c.in-Ok.field-0; payloads = k.0 }, k.1)
