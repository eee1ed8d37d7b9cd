use Rattle.std.proofs.Common.{[], drop, take}
use Rattle.data_history.proofs.Sealing.{old_unwritten, old_written}
use Rattle.data_history.proofs.Sessions.{holds_store, placed_none}
use Rattle.data_history.proofs.store.old_store_into.Goals as goal

pub returns-in-Some-place-clause-opens : goal.returns-in-Some-place-clause-opens
returns-in-Some-place-clause-opens c =
    old_written c.args.file.now c.in-Some.history.now c.head.result c.args.output.now
    c.place.new.output c.in-Some-place.size c.in-Some.ensures.opens c.head.ensures
    c.in-Some-place.ensures

pub returns-in-None-place-clause-opens : goal.returns-in-None-place-clause-opens
returns-in-None-place-clause-opens c =
    old_unwritten c.args.file.now c.in-Some.history.now c.head.result c.args.output.now
    c.place.new.output c.in-Some.ensures.opens c.head.ensures c.in-None-place.ensures

pub returns-in-Some-place-clause-store : goal.returns-in-Some-place-clause-store
returns-in-Some-place-clause-store c = λ z ys h.
    let file = c.args.file.now in
    let (old, size, placed) = old_written file c.in-Some.history.now c.head.result c.args.output.now
    c.place.new.output c.in-Some-place.size c.in-Some.ensures.opens c.head.ensures
    c.in-Some-place.ensures in
    holds_store (take c.in-Some-place.size c.place.new.output) [] (drop 16 file) z ys
    (placed_none c.in-Some-place.size (drop 16 file) c.args.output.now c.place.new.output placed) h

pub returns-in-Some-place-clause-left : goal.returns-in-Some-place-clause-left
returns-in-Some-place-clause-left c =
    let file = c.args.file.now in
    let (old, size, placed) = old_written file c.in-Some.history.now c.head.result c.args.output.now
    c.place.new.output c.in-Some-place.size c.in-Some.ensures.opens c.head.ensures
    c.in-Some-place.ensures in
    (placed_none c.in-Some-place.size (drop 16 file) c.args.output.now c.place.new.output
    placed).left
