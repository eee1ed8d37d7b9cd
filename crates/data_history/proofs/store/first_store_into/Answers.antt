use Rattle.std.proofs.Common.{[], ◌+◌, arith, length}
use Rattle.data_history.proofs.Sessions.{holds_store, lacks, placed, placed_size}
use Rattle.data_history.proofs.store.first_store_into.Goals as goal

pub returns-in-Some-clause-begins : goal.returns-in-Some-clause-begins
returns-in-Some-clause-begins c = λ z ys h.
    let o = placed c.in-Some.size [] [] c.args.history.now c.args.output.now
    c.place_store.new.output (omega arith) c.in-Some.ensures.bytes in
    (holds_store _ [] c.args.history.now z ys o h, o.left)

pub returns-in-None-clause-room : goal.returns-in-None-clause-room
returns-in-None-clause-room c = (
  lacks (length c.args.output.now) (16 + length c.args.history.now)
      (λ le. c.in-None.ensures.enough (omega (arith, le))),
  omega arith,
)

pub returns-in-Some-clause-history : goal.returns-in-Some-clause-history
returns-in-Some-clause-history c =
    (placed c.in-Some.size [] [] c.args.history.now c.args.output.now c.place_store.new.output
    (omega arith) c.in-Some.ensures.bytes).rest

pub returns-in-Some-clause-form : goal.returns-in-Some-clause-form
returns-in-Some-clause-form c =
    (placed c.in-Some.size [] [] c.args.history.now c.args.output.now c.place_store.new.output
    (omega arith) c.in-Some.ensures.bytes).form

pub returns-in-Some-clause-fits : goal.returns-in-Some-clause-fits
returns-in-Some-clause-fits c =
    let size = placed_size c.in-Some.size [] [] c.args.history.now c.args.output.now
    c.place_store.new.output c.in-Some.ensures.bytes in
    (omega (arith, size), c.in-Some.ensures.bytes.1)

pub returns-in-None-clause-fits : goal.returns-in-None-clause-fits
returns-in-None-clause-fits c = (
  omega arith,
  lacks (length c.args.output.now) (16 + length c.args.history.now)
      (λ le. c.in-None.ensures.enough (omega (arith, le))),
)
