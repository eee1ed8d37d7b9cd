use Rattle.std.proofs.Common.{◌≡◌, false, true}
use Rattle.rtr_units.specs.AnyEnd.{end_meaning}
use Rattle.data_history.proofs.Advancing.{checks_first}
use Rattle.data_history.proofs.next.next_into.Goals as goal

pub returns-in-Err-clause-data : goal.returns-in-Err-clause-data
returns-in-Err-clause-data c = λ x z ys h j. c.in-Err.ensures.flaw.none (z.payloads, z.end, j)

pub returns-in-None-clause-data : goal.returns-in-None-clause-data
returns-in-None-clause-data c = λ x z ys h j.
    let wrong : false ≡ true = c.in-None.ensures.finds x ys h in
    absurd cc

pub returns-in-Some-clause-flaw : goal.returns-in-Some-clause-flaw
returns-in-Some-clause-flaw c =
    let k = c.in-Ok.ensures.«data» in
    checks_first c.advance.result c.args.new.now c.advance.ensures.flaw
    (record { end = end_meaning c.in-Ok.end; payloads = k.0 }, k.1)

pub returns-in-None-clause-flaw : goal.returns-in-None-clause-flaw
returns-in-None-clause-flaw c =
    let k = c.in-Ok.ensures.«data» in
    (record { end = end_meaning c.in-Ok.end; payloads = k.0 }, k.1)
