use Rattle.std.proofs.Common.{Ok, Err, refl}
use Rattle.rtr_wire.specs.Sequences.{everything}
use Rattle.rtr_wire.specs.declared.run.Passed.TheVariants as passes
use Rattle.rtr_wire.proofs.Units.{unit_passed, form_put, form_not_put, not_meant}
use Rattle.rtr_wire.proofs.Units.{not_read, end_written, end_not_written}
use Rattle.rtr_wire.proofs.laws.plain_way.Goals as goal

pub returns-clause-written : goal.returns-clause-written
returns-clause-written c = λ u action p old new held holds read fields means wrote.
    unit_passed everything u (Ok passes.Written) old new held holds read fields
    (form_put everything u action p means _ _ _ refl refl refl held holds wrote)

pub returns-clause-written_in_part : goal.returns-clause-written_in_part
returns-clause-written_in_part c = λ u action p fault old new held holds read fields means part.
    unit_passed everything u (Err fault) old new held holds read fields
    (form_not_put everything u action p means _ _ _ refl refl refl fault held holds part)

pub returns-clause-refused : goal.returns-clause-refused
returns-clause-refused c = λ u fault old new held read fields none.
    unit_passed everything u (Err fault) old new held held read fields
    (not_meant everything u fault held none)

pub returns-clause-unread : goal.returns-clause-unread
returns-clause-unread c = not_read everything

pub returns-clause-end : goal.returns-clause-end
returns-clause-end c = λ d. end_written everything d d (λ end. end.bytes)

pub returns-clause-end_cut : goal.returns-clause-end_cut
returns-clause-end_cut c = λ d fault. end_not_written everything d d (λ end. end.bytes) fault
