use Rattle.std.proofs.Common.{length}
use Rattle.data_slices.proofs.InSession.{applied}
use Rattle.data_slices.proofs.in_order.apply_in_order.Goals as goal

pub returns : goal.returns
returns c =
    let x = c.in-Ok.read in
    applied c.args.«data».now c.args.changes.now c.read_both.new.index (length c.args.index.now)
    x.0 x.1 c.in-Ok.ensures.reads c.in-Ok.ensures.same_length c.args.output.now
    c.make_in_order.new.output c.make_in_order.result c.make_in_order.ensures
