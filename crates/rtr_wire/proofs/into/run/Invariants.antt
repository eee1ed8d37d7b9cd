use Rattle.rtr_wire.proofs.IntoSteps.{Along}
use Rattle.rtr_wire.proofs.into.run.Given as goal

abbrev pub invariant-loop-units : goal.invariant-loop-units
invariant-loop-units g l =
    Along (g.S.Writing.what l.writing) l.units l.left_out l.input l.taken l.initial.output
    l.output l.written
