use Rattle.std.proofs.Common.{arith, None, Some, refl}
use Rattle.rtr_units.specs.AnyEnd.{end_meaning}
use Rattle.data_slices.proofs.Lying.{checks, sorted_at, writes}
use Rattle.data_slices.proofs.at_offsets.make_at.Goals as goal

pub first_disallowed-requires : goal.first_disallowed-requires
first_disallowed-requires c =
    let q = c.requires.units in
    let v = (end_meaning c.args.end.now).version in
    let r = sorted_at c.args.input.now c.args.offsets.now v q.0 c.sort_offsets.new.offsets
    (λ i. omega (arith, c.type_inv.input i)) q.1 q.2 c.sort_offsets.ensures.permutation
    c.sort_offsets.ensures.sorted in
    (v, r.ds, r.units)

pub place_all_made-requires-clause-units : goal.place_all_made-requires-clause-units
place_all_made-requires-clause-units c =
    let q = c.requires.units in
    let v = (end_meaning c.args.end.now).version in
    let r = sorted_at c.args.input.now c.args.offsets.now v q.0 c.sort_offsets.new.offsets
    (λ i. omega (arith, c.type_inv.input i)) q.1 q.2 c.sort_offsets.ensures.permutation
    c.sort_offsets.ensures.sorted in
    (v, r.ds, r.units)

pub place_all_made-requires-clause-end : goal.place_all_made-requires-clause-end
place_all_made-requires-clause-end c = c.requires.end.bytes

pub returns-in-Some : goal.returns-in-Some
returns-in-Some c = λ d xs b is l. (
  checks c.args.«data».now c.args.input.now c.args.offsets.now c.sort_offsets.new.offsets
      (λ i. omega (arith, c.type_inv.input i)) c.sort_offsets.ensures.permutation
      c.sort_offsets.ensures.sorted (Some (c.in-Some.offset, c.in-Some.action)) c.in-Some.ensures
      (end_meaning c.args.end.now).version (end_meaning c.args.end.now).version d xs b is l,
  refl,
)

pub returns-in-Some-place_all_made : goal.returns-in-Some-place_all_made
returns-in-Some-place_all_made c =
    writes c.args.«data».now c.args.input.now c.args.offsets.now c.sort_offsets.new.offsets
    (λ i. omega (arith, c.type_inv.input i)) c.sort_offsets.ensures.permutation
    c.sort_offsets.ensures.sorted (end_meaning c.args.end.now) c.args.output.now
    c.place_all_made.new.output c.requires.end.fits c.in-None.ensures
    (Some c.in-Some-place_all_made.size) c.in-Some-place_all_made.ensures

pub returns-in-None-place_all_made : goal.returns-in-None-place_all_made
returns-in-None-place_all_made c =
    writes c.args.«data».now c.args.input.now c.args.offsets.now c.sort_offsets.new.offsets
    (λ i. omega (arith, c.type_inv.input i)) c.sort_offsets.ensures.permutation
    c.sort_offsets.ensures.sorted (end_meaning c.args.end.now) c.args.output.now
    c.place_all_made.new.output c.requires.end.fits c.in-None.ensures None
    c.in-None-place_all_made.ensures
