use Rattle.std.proofs.Common.{◌+◌, ap, subst, arith}
use Rattle.std.proofs.lemmas.List.{take_rest}
use Rattle.rtr_c.specs.ShownUnits.{ShowsFirst}
use Rattle.rtr_c.proofs.Filling.{Next, ended, next, filled}
use Rattle.rtr_c.proofs.many.rtr_next_many_nonnull.Goals as goal

pub returns-then-status-ne-ACCEPTED : goal.returns-then-status-ne-ACCEPTED
returns-then-status-ne-ACCEPTED c =
    let next = c.rtr_next_nonnull-status in
    ended _ _ _ _ _ _ c.loop-unit.invariant.2 next.new.unit
    (omega (arith, c.loop-unit-test.true, c.loop-unit.auto.units)) next.ensures.0 _
    (subst (λ x. ShowsFirst next.ensures.0 x next.new.unit next.result)
    (take_rest c.args.input.now c.loop-unit.taken) next.ensures.1)
    c.if-status-ne-ACCEPTED.true

pub loop-unit-preserved : goal.loop-unit-preserved
loop-unit-preserved c =
    let shown = c.rtr_next_nonnull-status in
    let after : Next _ _ _ _ _ _ c.loop-unit.invariant.2 shown.new.unit
    (omega (arith, c.loop-unit-test.true, c.loop-unit.auto.units)) =
    next _ _ _ _ _ _ c.loop-unit.invariant.2 shown.new.unit
    (omega (arith, c.loop-unit-test.true, c.loop-unit.auto.units)) c.loop-unit.invariant.1
    shown.ensures.0 _
    (subst (λ x. ShowsFirst shown.ensures.0 x shown.new.unit shown.result)
    (take_rest c.args.input.now c.loop-unit.taken) shown.ensures.1)
    c.if-status-ne-ACCEPTED.false in
    (ap (λ x. x + 1) c.loop-unit.invariant.0, after.0, after.1)

pub returns : goal.returns
returns c = filled _ _ _ _ _ _ c.loop-unit.invariant.2
    (omega (arith, c.loop-unit-test.false, c.loop-unit.auto.units))
