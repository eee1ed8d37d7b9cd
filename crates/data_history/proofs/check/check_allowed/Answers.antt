use Rattle.std.proofs.Common.{◌≡◌, ◌≤◌, arith, length}
use Rattle.rtr_units.specs.AnyEnd.{end_meaning}
use Rattle.data_slices.specs.InOrder.{AreAllowed}
use Rattle.data_slices.proofs.AsTheyCame.{of_one}
use Rattle.data_history.proofs.Checking.{not_allowed}
use Rattle.data_history.proofs.Joining.{changes_few}
use Rattle.data_history.proofs.check.check_allowed.Goals as goal

pub returns-in-Ok-clause-allows : goal.returns-in-Ok-clause-allows
returns-in-Ok-clause-allows c = λ x cs e h s v t.
    (of_one c.args.present.now c.args.changes.now x.payloads cs x.end e h s
    (λ d cs e. (end_meaning c.in-Ok.field-0 ≡ e) × (length cs ≤ length c.args.index.now)
    × AreAllowed cs d)
    c.in-Ok.ensures).2

pub returns-in-Err-clause-allows : goal.returns-in-Err-clause-allows
returns-in-Err-clause-allows c = λ x cs e h s v t.
    not_allowed c.in-Err.field-0 c.args.present.now c.args.changes.now (length c.args.index.now) x
    cs e h s v t
    (omega (arith, changes_few c.args.changes.now cs e s, c.if-index-places.false))
    c.in-Err.ensures
