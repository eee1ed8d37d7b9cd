use Rattle.rtr_wire.proofs.SlicesCompared.{fault_told}
use Rattle.rtr_wire.proofs.compare_slices.same_meaning_slice.Goals as goal

pub returns-in-Err : goal.returns-in-Err
returns-in-Err c =
    fault_told c.args.limit c.in-Err.field-0 c.args.left.now c.args.right.now c.in-Err.ensures
