use Rattle.data_slices.proofs.UnitsAt.{no_unit_where}
use Rattle.data_slices.proofs.offsets.unit_at.Goals as goal

pub returns-in-Err : goal.returns-in-Err
returns-in-Err c =
    no_unit_where c.in-Err.field-0 c.args.input.now c.args.offset c.in-Err.ensures.fault
