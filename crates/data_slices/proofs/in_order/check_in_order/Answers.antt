use Rattle.std.proofs.Common.{length, sym, subst}
use Rattle.data_slices.specs.InOrder.{RefusesInOrder}
use Rattle.data_slices.proofs.InSession.{checked, refuses}
use Rattle.data_slices.proofs.in_order.check_in_order.Goals as goal

pub returns-in-None : goal.returns-in-None
returns-in-None c =
    let x = c.in-Ok.read in
    checked c.args.«data».now c.args.changes.now c.read_both.new.index
    (length c.args.index.now) x.0 x.1
    c.in-Ok.ensures.reads c.in-Ok.ensures.same_length c.in-None.ensures

pub returns-in-Some : goal.returns-in-Some
returns-in-Some c =
    let x = c.in-Ok.read in
    let n = length c.args.index.now in
    subst (λ f. RefusesInOrder f c.args.«data».now c.args.changes.now n)
    (sym c.refused_with.ensures)
    (refuses c.args.«data».now c.args.changes.now c.read_both.new.index n x.0 x.1
    c.in-Ok.ensures.reads c.in-Ok.ensures.same_length c.in-Some.offset c.in-Some.action
    c.in-Some.ensures)
