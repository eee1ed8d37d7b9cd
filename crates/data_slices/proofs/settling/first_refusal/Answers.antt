use Rattle.std.proofs.Common.{sym, subst}
use Rattle.data_slices.proofs.Going.{Refusing, goes_on, refusing, stops_there}
use Rattle.data_slices.proofs.settling.first_refusal.Goals as goal

pub offsets-init : goal.offsets-init
offsets-init c =
    let f = c.in-Some.first in
    subst (Refusing c.args.input.now c.args.offsets.now f.0 f.1 f.2.now)
    (sym c.action-first.ensures)
    (refusing c.args.input.now c.args.offsets.now f.0 f.1 f.2.now c.requires c.in-Some.ensures)

pub returns-in-Some-between : goal.returns-in-Some-between
returns-in-Some-between c =
    let l = c.offsets in
    let f = c.in-Some-first_unit.first in
    stops_there c.args.input.now c.args.offsets.now l.offset l.view l.rest.now l.first l.invariant
    f.0 f.1 f.2.now c.in-Some-first_unit.ensures c.same_name-same.result
    c.same_name-same.ensures c.between.result c.between.ensures c.in-Some-between.fault
    c.in-Some-between.is

pub offsets-preserved : goal.offsets-preserved
offsets-preserved c =
    let l = c.offsets in
    let f = c.in-Some-first_unit.first in
    subst (Refusing c.args.input.now c.args.offsets.now f.0 f.1 f.2.now)
    (sym c.first_action-first.ensures)
    (goes_on c.args.input.now c.args.offsets.now l.offset l.view l.rest.now l.first l.invariant
    f.0 f.1 f.2.now c.in-Some-first_unit.ensures c.same_name-same.result
    c.same_name-same.ensures c.between.result c.between.ensures c.in-None-between.is)
