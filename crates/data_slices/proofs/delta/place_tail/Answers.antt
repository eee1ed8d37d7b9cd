use Rattle.data_slices.proofs.Deltas.{last_placed, no_last, none_withdrawn}
use Rattle.data_slices.proofs.delta.place_tail.Goals as goal

pub returns-in_err-withdrawn-clause-bytes : goal.returns-in_err-withdrawn-clause-bytes
returns-in_err-withdrawn-clause-bytes c =
    rw c.from_residual.ensures
    (none_withdrawn c.args.old.now c.args.new.now c.args.version c.args.last.now c.args.output.now
    c.place_missing.new.output c.in_err-withdrawn.ensures.bytes)

pub returns-clause-bytes : goal.returns-clause-bytes
returns-clause-bytes c =
    last_placed c.args.old.now c.args.new.now c.args.version c.args.last.now c.args.output.now
    c.place_missing.new.output c.in_ok-withdrawn.withdrawn c.in_ok-withdrawn.ensures.bytes
    c.place.new.output c.in_ok-last_size.last_size c.in_ok-last_size.ensures

pub returns-in_err-last_size-clause-bytes : goal.returns-in_err-last_size-clause-bytes
returns-in_err-last_size-clause-bytes c =
    rw c.from_residual-in_err-last_size.ensures
    (no_last c.args.old.now c.args.new.now c.args.version c.args.last.now c.args.output.now
    c.place_missing.new.output c.in_ok-withdrawn.withdrawn c.in_ok-withdrawn.ensures.bytes
    c.place.new.output c.in_err-last_size.ensures)
