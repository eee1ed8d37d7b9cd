use Rattle.std.proofs.Common.{◌∙◌}
use Rattle.rtr_units.specs.AnyEnd.{end_meaning}
use Rattle.data_slices.proofs.AppliedParts.{end_placed, no_end, none_placed}
use Rattle.data_slices.proofs.apply.place_all.Goals as goal

pub returns-in_err-size : goal.returns-in_err-size
returns-in_err-size c =
    let p = c.args.parts.now in
    rw c.from_residual.ensures
    (none_placed c.args.«data».now c.args.changes.now p.middle p.stop (end_meaning p.end)
    c.args.output.now c.place_applied.new.output c.in_err-size.ensures.bytes)

pub returns : goal.returns
returns c =
    let p = c.args.parts.now in
    end_placed c.args.«data».now c.args.changes.now p.middle p.stop (end_meaning p.end)
    c.args.output.now c.place_applied.new.output c.in_ok-size.size c.in_ok-size.ensures.bytes
    c.as_ref.result.now c.place.new.output (c.as_ref.ensures.bytes ∙ c.requires.end)
    c.in_ok-end_size.end_size c.in_ok-end_size.ensures

pub returns-in_err-end_size : goal.returns-in_err-end_size
returns-in_err-end_size c =
    let p = c.args.parts.now in
    rw c.from_residual-in_err-end_size.ensures
    (no_end c.args.«data».now c.args.changes.now p.middle p.stop (end_meaning p.end)
    c.args.output.now c.place_applied.new.output c.in_ok-size.size c.in_ok-size.ensures.bytes
    c.as_ref.result.now c.place.new.output (c.as_ref.ensures.bytes ∙ c.requires.end)
    c.in_err-end_size.ensures)
