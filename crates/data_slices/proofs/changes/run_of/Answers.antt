use Rattle.std.proofs.Common.{refl, sym, ◌∙◌}
use Rattle.std.proofs.lemmas.Bool.{true≢false}
use Rattle.data_slices.proofs.Running.{goes, starts, stops, stops_at_none, stops_before}
use Rattle.data_slices.proofs.changes.run_of.Goals as goal

pub units-init : goal.units-init
units-init c = starts c.args.action c.args.before c.args.input.now

pub overflow_sub-size : goal.overflow_sub-size
overflow_sub-size c = c.units.invariant.fits

pub returns-in-None-clause-run : goal.returns-in-None-clause-run
returns-in-None-clause-run c =
    let u = c.units in
    stops c.args.action c.args.before c.args.input.now u.rest.now u.last u.version u.invariant
    (stops_at_none c.args.action c.args.before c.args.input.now u.rest.now u.last u.version
    u.invariant (c.in-None.ensures.none refl)) _ refl

pub returns-then-not-goes_on-clause-run : goal.returns-then-not-goes_on-clause-run
returns-then-not-goes_on-clause-run c =
    let u = c.units in
    stops c.args.action c.args.before c.args.input.now u.rest.now u.last u.version u.invariant
    (stops_before c.args.action c.args.before c.args.input.now u.rest.now u.last u.version
    u.invariant c.in-Some.first.0 c.in-Some.first.1.now c.in-Some.ensures.unit
    (λ on. true≢false (sym (c.goes_on.ensures.1 on) ∙ c.if-not-goes_on.true))) _ refl

pub units-preserved : goal.units-preserved
units-preserved c =
    let u = c.units in
    rw c.version.ensures
    (goes c.args.action c.args.before c.args.input.now u.rest.now u.last u.version
    u.invariant c.in-Some.first.0 c.in-Some.first.1.now c.in-Some.ensures.unit
    (c.goes_on.ensures.0 c.if-not-goes_on.false))
