use Rattle.std.proofs.Common.{◌∙◌}
use Rattle.rtr_units.specs.AnyEnd.{end_meaning}
use Rattle.data_slices.proofs.MadeEnd.{end_made, no_end, none_made}
use Rattle.data_slices.proofs.made.place_all_made.Goals as goal

pub returns-in_err-size : goal.returns-in_err-size
returns-in_err-size c =
    rw c.from_residual.ensures
    (none_made c.args.«data».now c.args.input.now c.args.offsets.now (end_meaning c.args.end.now)
    c.args.output.now c.place_made.new.output c.in_err-size.ensures.bytes)

pub returns-in_err-end_size : goal.returns-in_err-end_size
returns-in_err-end_size c =
    let n = c.in_ok-size.size in
    let made = c.place_made.new.output in
    rw c.from_residual-in_err-end_size.ensures
    (no_end c.args.«data».now c.args.input.now c.args.offsets.now (end_meaning c.args.end.now)
    c.args.output.now made n c.in_ok-size.ensures.bytes c.as_ref.result.now
    c.place.new.output (c.as_ref.ensures.bytes ∙ c.requires.end) c.in_err-end_size.ensures)

pub returns : goal.returns
returns c =
    end_made c.args.«data».now c.args.input.now c.args.offsets.now (end_meaning c.args.end.now)
    c.args.output.now c.place_made.new.output c.in_ok-size.size c.in_ok-size.ensures.bytes
    c.as_ref.result.now c.place.new.output (c.as_ref.ensures.bytes ∙ c.requires.end)
    c.in_ok-end_size.end_size c.in_ok-end_size.ensures
