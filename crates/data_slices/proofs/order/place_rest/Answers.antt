use Rattle.std.proofs.Common.{◌∙◌}
use Rattle.rtr_units.specs.AnyEnd.{end_meaning}
use Rattle.data_slices.proofs.Pieces.{end_after, no_end_after, no_withdrawn}
use Rattle.data_slices.proofs.order.place_rest.Goals as goal

pub returns-in_err-withdrawn-clause-bytes : goal.returns-in_err-withdrawn-clause-bytes
returns-in_err-withdrawn-clause-bytes c =
    rw c.from_residual.ensures
    (no_withdrawn c.args.input.now c.args.offsets.now (end_meaning c.args.end.now)
    c.args.output.now c.place_settled.new.output c.in_err-withdrawn.ensures.bytes)

pub returns-clause-bytes : goal.returns-clause-bytes
returns-clause-bytes c =
    end_after c.args.input.now c.args.offsets.now (end_meaning c.args.end.now)
    c.args.output.now c.place_settled.new.output c.in_ok-withdrawn.withdrawn
    c.in_ok-withdrawn.ensures.bytes
    c.as_ref.result.now c.place.new.output (c.as_ref.ensures.bytes ∙ c.requires.end)
    c.in_ok-end_size.end_size c.in_ok-end_size.ensures

pub returns-in_err-end_size-clause-bytes : goal.returns-in_err-end_size-clause-bytes
returns-in_err-end_size-clause-bytes c =
    rw c.from_residual-in_err-end_size.ensures
    (no_end_after c.args.input.now c.args.offsets.now (end_meaning c.args.end.now)
    c.args.output.now c.place_settled.new.output c.in_ok-withdrawn.withdrawn
    c.in_ok-withdrawn.ensures.bytes
    c.as_ref.result.now c.place.new.output (c.as_ref.ensures.bytes ∙ c.requires.end)
    c.in_err-end_size.ensures)
