use Rattle.data_slices.proofs.Units.{none_at_fault}
use Rattle.data_slices.proofs.item.next_unit.Goals as goal

pub returns-in-Err-clause-none : goal.returns-in-Err-clause-none
returns-in-Err-clause-none c = λ same.
    none_at_fault c.in-Err.field-0 c.args.input.now c.in-Err.ensures.fault
