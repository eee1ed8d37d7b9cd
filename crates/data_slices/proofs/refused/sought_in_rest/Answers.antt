use Rattle.std.proofs.Common.{false, true}
use Rattle.data_slices.proofs.Seeking.{finds, passes}
use Rattle.data_slices.proofs.refused.sought_in_rest.Goals as goal

pub units-init : goal.units-init
units-init c = c.requires

pub units-preserved : goal.units-preserved
units-preserved c =
    passes c.args.first.now c.args.those.now c.units.rest.now c.units.invariant
    c.compare_front-order.result.1.now c.compare_front-order.result.0
    c.compare_front-order.ensures.order c.in-Greater.is

pub returns-in-Less : goal.returns-in-Less
returns-in-Less c =
    finds c.args.first.now c.args.those.now c.units.rest.now c.units.invariant
    c.compare_front-order.result.1.now c.compare_front-order.result.0 false
    c.compare_front-order.ensures.order c.in-Less.is

pub returns-in-Equal : goal.returns-in-Equal
returns-in-Equal c =
    finds c.args.first.now c.args.those.now c.units.rest.now c.units.invariant
    c.compare_front-order.result.1.now c.compare_front-order.result.0 true
    c.compare_front-order.ensures.order c.in-Equal.is
