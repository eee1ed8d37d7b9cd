use Rattle.std.proofs.Common.{◌≡◌, arith, false, length, subst, true}
use Rattle.data_history.specs.Checks.{ChecksHistory}
use Rattle.data_history.proofs.Serving.{checked, short_check}
use Rattle.data_history.proofs.stores.check_store.Goals as goal

pub returns-in-Some-clause-checks : goal.returns-in-Some-clause-checks
returns-in-Some-clause-checks c =
    checked c.check_history.result c.args.store.now c.in-Some.ensures.is_there
    (subst (ChecksHistory c.check_history.result) c.in-Some.ensures.rest
    c.check_history.ensures.checks)

pub returns-in-Some-clause-rooms : goal.returns-in-Some-clause-rooms
returns-in-Some-clause-rooms c =
    short_check c.check_history.result (length c.in-Some.part.2.now) (length c.args.store.now)
    (length c.args.index.now) (length c.args.buffer.now) (omega (arith, c.in-Some.ensures.shorter))
    c.check_history.ensures.rooms

pub returns-in-None-clause-checks : goal.returns-in-None-clause-checks
returns-in-None-clause-checks c = λ x ys h.
    let wrong : false ≡ true = c.in-None.ensures.finds h.first in
    absurd cc
