use Rattle.unit_any.proofs.Lengths.{said_bounded}
use Rattle.rtr_c.proofs.size.rtr_unit_size_nonnull.Goals as goal

pub returns-in-Ok-Some-clause-bounded : goal.returns-in-Ok-Some-clause-bounded
returns-in-Ok-Some-clause-bounded c zero =
    said_bounded c.args.input.now c.in-Ok-Some.length
    (rw c.in-Ok-Some.field-0-is at c.in-Ok-Some.ensures)
