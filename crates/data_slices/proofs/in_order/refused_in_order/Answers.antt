use Rattle.std.proofs.Common.{◌++◌, arith}
use Rattle.data_slices.proofs.Refusal.{answers, in_row}
use Rattle.data_slices.proofs.SortedOffsets.{in_order}
use Rattle.data_slices.proofs.in_order.refused_in_order.Goals as goal

pub first_disallowed-requires : goal.first_disallowed-requires
first_disallowed-requires c =
    let (cs, e, s) = c.requires in
    let r = in_order c.args.changes.now c.args.offsets.now cs e.version s.front (s.last ++ s.rest)
    c.sort_offsets.new.offsets (λ i. omega (arith, c.type_inv.changes i)) s.parts s.units
    c.sort_offsets.ensures.permutation c.sort_offsets.ensures.sorted in
    (e.version, r.ds, r.units)

pub returns : goal.returns
returns c = λ w d cs e h s is.
    let r = in_order c.args.changes.now c.args.offsets.now cs e.version s.front (s.last ++ s.rest)
    c.sort_offsets.new.offsets (λ i. omega (arith, c.type_inv.changes i)) s.parts s.units
    c.sort_offsets.ensures.permutation c.sort_offsets.ensures.sorted in
    answers c.args.changes.now c.args.offsets.now cs e s c.sort_offsets.new.offsets r d is
    c.first_disallowed.result
    (c.first_disallowed.ensures e.version w d r.ds h r.units (in_row r.ds r.ordered))
