use Rattle.rtr_units.specs.AnyEnd.{end_meaning}
use Rattle.data_slices.proofs.Pieces.{all_after, no_announced, no_rest}
use Rattle.data_slices.proofs.order.place_ordered.Goals as goal

pub returns-in_err-announced : goal.returns-in_err-announced
returns-in_err-announced c =
    rw c.from_residual.ensures
    (no_announced c.args.input.now c.args.offsets.now (end_meaning c.args.end.now)
    c.args.output.now c.place_settled.new.output c.in_err-announced.ensures.bytes)

pub returns : goal.returns
returns c =
    all_after c.args.input.now c.args.offsets.now (end_meaning c.args.end.now)
    c.args.output.now c.place_settled.new.output c.in_ok-announced.announced
    c.in_ok-announced.ensures.bytes
    c.place_rest.new.output c.in_ok-rest.rest c.in_ok-rest.ensures.bytes

pub returns-in_err-rest : goal.returns-in_err-rest
returns-in_err-rest c =
    rw c.from_residual-in_err-rest.ensures
    (no_rest c.args.input.now c.args.offsets.now (end_meaning c.args.end.now)
    c.args.output.now c.place_settled.new.output c.in_ok-announced.announced
    c.in_ok-announced.ensures.bytes
    c.place_rest.new.output c.in_err-rest.ensures.bytes)
