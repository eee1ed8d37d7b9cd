use Rattle.std.proofs.Common.{◌++◌, Some, None, arith}
use Rattle.rtr_units.specs.AnyEnd.{end_meaning}
use Rattle.data_slices.proofs.Refusals.{orders_refused, writes}
use Rattle.data_slices.proofs.SortedOffsets.{in_order}
use Rattle.data_slices.proofs.order.order_offsets.Goals as goal

pub first_refusal-requires : goal.first_refusal-requires
first_refusal-requires c =
    let e = end_meaning c.args.end.now in
    let (cs, s) = c.requires.sends in
    let r = in_order c.args.input.now c.args.offsets.now cs e.version s.front (s.last ++ s.rest)
    c.sort_offsets.new.offsets (λ i. omega (arith, c.type_inv.input i)) s.parts s.units
    c.sort_offsets.ensures.permutation
    c.sort_offsets.ensures.sorted in
    (e.version, r.ds, r.units)

pub returns-in-Some : goal.returns-in-Some
returns-in-Some c = λ n enough.
    let e = end_meaning c.args.end.now in
    let (cs, s) = c.requires.sends in
    let r = in_order c.args.input.now c.args.offsets.now cs e.version s.front (s.last ++ s.rest)
    c.sort_offsets.new.offsets (λ i. omega (arith, c.type_inv.input i)) s.parts s.units
    c.sort_offsets.ensures.permutation
    c.sort_offsets.ensures.sorted in
    orders_refused c.args.input.now c.args.offsets.now cs e s c.sort_offsets.new.offsets r n enough
    c.in-Some.fault c.args.output.now (c.in-Some.ensures e.version r.ds r.units)

pub place_ordered-requires-clause-units : goal.place_ordered-requires-clause-units
place_ordered-requires-clause-units c =
    let e = end_meaning c.args.end.now in
    let (cs, s) = c.requires.sends in
    let r = in_order c.args.input.now c.args.offsets.now cs e.version s.front (s.last ++ s.rest)
    c.sort_offsets.new.offsets (λ i. omega (arith, c.type_inv.input i)) s.parts s.units
    c.sort_offsets.ensures.permutation
    c.sort_offsets.ensures.sorted in
    (e.version, r.ds, r.units)

pub returns-in-Some-place_ordered : goal.returns-in-Some-place_ordered
returns-in-Some-place_ordered c = λ n enough.
    let e = end_meaning c.args.end.now in
    let (cs, s) = c.requires.sends in
    let r = in_order c.args.input.now c.args.offsets.now cs e.version s.front (s.last ++ s.rest)
    c.sort_offsets.new.offsets (λ i. omega (arith, c.type_inv.input i)) s.parts s.units
    c.sort_offsets.ensures.permutation
    c.sort_offsets.ensures.sorted in
    writes c.args.input.now c.args.offsets.now cs e s c.sort_offsets.new.offsets r n enough
    c.args.output.now c.place_ordered.new.output (Some c.in-Some-place_ordered.size)
    (c.in-None.ensures e.version r.ds r.units) (c.in-Some-place_ordered.ensures r.ds r.units)

pub returns-in-None-place_ordered : goal.returns-in-None-place_ordered
returns-in-None-place_ordered c = λ n enough.
    let e = end_meaning c.args.end.now in
    let (cs, s) = c.requires.sends in
    let r = in_order c.args.input.now c.args.offsets.now cs e.version s.front (s.last ++ s.rest)
    c.sort_offsets.new.offsets (λ i. omega (arith, c.type_inv.input i)) s.parts s.units
    c.sort_offsets.ensures.permutation
    c.sort_offsets.ensures.sorted in
    writes c.args.input.now c.args.offsets.now cs e s c.sort_offsets.new.offsets r n enough
    c.args.output.now c.place_ordered.new.output None
    (c.in-None.ensures e.version r.ds r.units) (c.in-None-place_ordered.ensures r.ds r.units)
