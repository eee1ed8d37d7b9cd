use Rattle.data_slices.proofs.Refusing.{advance, begins, found_none, stop}
use Rattle.data_slices.proofs.refused.first_breaking.Goals as goal
use Rattle.std.proofs.Common.{refl}

pub units-init : goal.units-init
units-init c = begins c.args.rule c.args.these.now c.args.those.now

pub returns-in-None-clause-found : goal.returns-in-None-clause-found
returns-in-None-clause-found c = λ v w ps qs h j.
    let u = c.units in
    found_none c.args.rule v w ps qs c.args.these.now u.these_rest.now u.those_rest.now
    (u.invariant.finding v w ps qs h j) (c.in-None.ensures.none refl)

pub returns-then-breaks-clause-found : goal.returns-then-breaks-clause-found
returns-then-breaks-clause-found c =
    let u = c.units in
    stop c.args.rule c.args.these.now c.args.those.now u.these_rest.now u.those_rest.now
    u.invariant c.in-Some.first.0 c.in-Some.first.1.now c.in-Some.ensures.unit
    c.sought-is_there.result.0 c.sought-is_there.result.1.now c.sought-is_there.ensures
    c.breaks.result c.breaks.ensures c.if-breaks.true

pub units-preserved : goal.units-preserved
units-preserved c =
    let u = c.units in
    advance c.args.rule c.args.these.now c.args.those.now u.these_rest.now u.those_rest.now
    u.invariant c.in-Some.first.0 c.in-Some.first.1.now c.in-Some.ensures.unit
    c.sought-is_there.result.0 c.sought-is_there.result.1.now c.sought-is_there.ensures
    c.breaks.result c.breaks.ensures c.if-breaks.false
