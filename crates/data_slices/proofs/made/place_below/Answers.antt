use Rattle.std.proofs.Common.{refl}
use Rattle.data_slices.proofs.Copying.{begins, ends, goes_on, no_room}
use Rattle.data_slices.proofs.made.place_below.Goals as goal

pub units-init : goal.units-init
units-init c = begins c.args.bound.now c.args.«data».now c.args.output.now

pub returns-in-None-clause-bytes : goal.returns-in-None-clause-bytes
returns-in-None-clause-bytes c =
    let u = c.units in
    ends c.args.bound.now c.args.«data».now u.rest.now c.args.output.now u.output u.written
    u.invariant (c.in-None.ensures.none refl)

pub returns-in_err-written-clause-bytes : goal.returns-in_err-written-clause-bytes
returns-in_err-written-clause-bytes c =
    let u = c.units in
    let f = c.in-Some in
    rw c.from_residual.ensures
    (no_room c.args.bound.now c.args.«data».now u.rest.now c.args.output.now u.output u.written
    u.invariant f.first.0 f.first.1.now f.ensures.unit c.place_unit.new.output
    f.ensures.under c.in_err-written.ensures)

pub units-preserved : goal.units-preserved
units-preserved c =
    let u = c.units in
    let f = c.in-Some in
    goes_on c.args.bound.now c.args.«data».now u.rest.now c.args.output.now u.output u.written
    u.invariant f.first.0 f.first.1.now f.ensures.unit c.place_unit.new.output
    f.ensures.under c.in_ok-written.field-0 c.in_ok-written.ensures
