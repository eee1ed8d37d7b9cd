use Rattle.data_slices.proofs.Passing.{units_more, units_start}
use Rattle.data_slices.proofs.check.pass_following.Goals as goal

pub units-init : goal.units-init
units-init c = units_start c.args.view.now c.args.left.now

pub units-preserved : goal.units-preserved
units-preserved c =
    let u = c.units in
    units_more c.args.view.now c.args.left.now u.last u.rest.now u.invariant c.in-Some.view
    c.in-Some.left.now c.in-Some.ensures.next c.in-Some.ensures.after

pub returns-in-None-clause-passed : goal.returns-in-None-clause-passed
returns-in-None-clause-passed c = (c.units.invariant.views, c.units.invariant.runs)

pub returns-in-None-clause-shorter : goal.returns-in-None-clause-shorter
returns-in-None-clause-shorter c = c.units.invariant.fits
