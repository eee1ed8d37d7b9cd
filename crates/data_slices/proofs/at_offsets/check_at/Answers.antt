use Rattle.std.proofs.Common.{arith}
use Rattle.data_slices.proofs.Lying.{checks, sorted_at}
use Rattle.data_slices.proofs.at_offsets.check_at.Goals as goal

pub first_disallowed-requires : goal.first_disallowed-requires
first_disallowed-requires c =
    let q = c.requires in
    let r = sorted_at c.args.input.now c.args.offsets.now q.0 q.1.0 c.sort_offsets.new.offsets
    (λ i. omega (arith, c.type_inv.input i)) q.1.1 q.1.2 c.sort_offsets.ensures.permutation
    c.sort_offsets.ensures.sorted in
    (q.0, r.ds, r.units)

pub returns : goal.returns
returns c =
    checks c.args.«data».now c.args.input.now c.args.offsets.now c.sort_offsets.new.offsets
    (λ i. omega (arith, c.type_inv.input i)) c.sort_offsets.ensures.permutation
    c.sort_offsets.ensures.sorted c.first_disallowed.result c.first_disallowed.ensures
