use Rattle.rtr_wire.proofs.Fronts.{left_refused}
use Rattle.rtr_wire.proofs.compare_slices.pass_same.Goals as goal

pub returns-in-Err-clause-different : goal.returns-in-Err-clause-different
returns-in-Err-clause-different c none =
    left_refused c.in-Err.field-0 c.args.left.now c.args.right.now c.in-Err.ensures.fault
