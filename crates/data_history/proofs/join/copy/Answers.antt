use Rattle.std.proofs.Common.{◌∙◌, Err, Result, ap, arith, subst}
use Rattle.rtr_wire.specs.Into.{NormalisesInto}
use Rattle.rtr_wire.specs.Sequences.{everything}
use Rattle.rtr_wire.specs.declared.into.IntoFault.{IntoFault}
use Rattle.data_history.proofs.Returning.{copied_form, never_stops}
use Rattle.data_history.proofs.join.copy.Goals as goal

abbrev stops : IntoFault → Result (Unit {0}) IntoFault
stops g = Err g

pub returns-in-Ok-clause-copies : goal.returns-in-Ok-clause-copies
returns-in-Ok-clause-copies c = λ cs e h.
    copied_form 18446744073709551615 c.args.changes.now c.args.output.now
    c.normalise_into-result.new.output c.normalise_into-result.result.0 cs e h
    (subst (λ r. NormalisesInto everything 18446744073709551615 r c.args.changes.now
    c.args.output.now c.normalise_into-result.new.output c.normalise_into-result.result.0)
    c.in-Ok.is c.normalise_into-result.ensures.bytes)

pub returns-in-Err-clause-enough : goal.returns-in-Err-clause-enough
returns-in-Err-clause-enough c = λ cs e h few.
    absurd (never_stops 18446744073709551615 c.in-Err.field-0 c.args.changes.now
    c.args.output.now c.normalise_into-result.new.output c.normalise_into-result.result.0 cs e h
    (omega arith)
    (subst (λ r. NormalisesInto everything 18446744073709551615 r c.args.changes.now
    c.args.output.now c.normalise_into-result.new.output c.normalise_into-result.result.0)
    c.in-Err.is c.normalise_into-result.ensures.bytes)
    (λ is. c.normalise_into-result.ensures.room few (c.in-Err.is ∙ ap (λ g. stops g) is)))
