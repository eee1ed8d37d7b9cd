use Rattle.data_slices.proofs.Deltas.{all_placed, no_tail, none_announced}
use Rattle.data_slices.proofs.delta.place_delta.Goals as goal

pub returns-in_err-announced : goal.returns-in_err-announced
returns-in_err-announced c =
    rw c.from_residual.ensures
    (none_announced c.args.old.now c.args.new.now c.args.version c.args.last.now c.args.output.now
    c.place_missing.new.output c.in_err-announced.ensures.bytes)

pub returns : goal.returns
returns c =
    all_placed c.args.old.now c.args.new.now c.args.version c.args.last.now c.args.output.now
    c.place_missing.new.output c.in_ok-announced.announced c.in_ok-announced.ensures.bytes
    c.place_tail.new.output c.in_ok-tail.tail c.in_ok-tail.ensures.bytes

pub returns-in_err-tail : goal.returns-in_err-tail
returns-in_err-tail c =
    rw c.from_residual-in_err-tail.ensures
    (no_tail c.args.old.now c.args.new.now c.args.version c.args.last.now c.args.output.now
    c.place_missing.new.output c.in_ok-announced.announced c.in_ok-announced.ensures.bytes
    c.place_tail.new.output c.in_err-tail.ensures.bytes)
