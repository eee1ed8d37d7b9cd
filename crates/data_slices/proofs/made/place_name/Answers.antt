use Rattle.std.proofs.Common.{Some}
use Rattle.data_slices.proofs.Naming.{as_up_to, up_to_name, up_to_no_name, up_to_none}
use Rattle.data_slices.proofs.made.place_name.Goals as goal

pub returns-in_err-size-clause-bytes : goal.returns-in_err-size-clause-bytes
returns-in_err-size-clause-bytes c =
    rw c.from_residual.ensures
    (as_up_to c.args.«data».now c.args.output.now c.place_below.new.output c.args.bound.now
    c.in_err-size.ensures.bytes)

pub returns-in-None-clause-bytes : goal.returns-in-None-clause-bytes
returns-in-None-clause-bytes c =
    let below = c.in_ok-size in
    up_to_none c.args.«data».now c.args.output.now c.place_below.new.output
    (Some (below.size, below.from)) c.args.bound.now c.in-None.is below.ensures.bytes

pub returns-clause-bytes : goal.returns-clause-bytes
returns-clause-bytes c =
    let below = c.in_ok-size in
    up_to_name c.args.«data».now c.args.output.now c.place_below.new.output c.args.bound.now
    c.in-Some.view c.in-Some.is below.size below.from below.ensures.bytes
    c.place_announced.new.output c.in_ok-more.more c.in_ok-more.ensures c.after_name.result
    c.after_name.ensures

pub returns-in_err-more-clause-bytes : goal.returns-in_err-more-clause-bytes
returns-in_err-more-clause-bytes c =
    let below = c.in_ok-size in
    rw c.from_residual-in_err-more.ensures
    (up_to_no_name c.args.«data».now c.args.output.now c.place_below.new.output c.args.bound.now
    c.in-Some.view c.in-Some.is below.size below.from below.ensures.bytes
    c.place_announced.new.output c.in_err-more.ensures)
