use Rattle.std.proofs.Common.{◌++◌, Some, None, Err, arith, sym, subst}
use Rattle.rtr_units.specs.AnyEnd.{end_meaning}
use Rattle.data_slices.specs.PrivateInOrder.{Outcome}
use Rattle.data_slices.proofs.MadeInOrder.{made_of, refused}
use Rattle.data_slices.proofs.Refusal.{in_row}
use Rattle.data_slices.proofs.SortedOffsets.{in_order}
use Rattle.data_slices.proofs.in_order.make_in_order.Goals as goal

pub first_disallowed-requires : goal.first_disallowed-requires
first_disallowed-requires c =
    let e = end_meaning c.args.end.now in
    let (cs, s) = c.requires.sends in
    let r = in_order c.args.changes.now c.args.offsets.now cs e.version s.front (s.last ++ s.rest)
    c.sort_offsets.new.offsets (λ i. omega (arith, c.type_inv.changes i)) s.parts s.units
    c.sort_offsets.ensures.permutation c.sort_offsets.ensures.sorted in
    (e.version, r.ds, r.units)

pub place_all_made-requires-clause-units : goal.place_all_made-requires-clause-units
place_all_made-requires-clause-units c =
    let e = end_meaning c.args.end.now in
    let (cs, s) = c.requires.sends in
    let r = in_order c.args.changes.now c.args.offsets.now cs e.version s.front (s.last ++ s.rest)
    c.sort_offsets.new.offsets (λ i. omega (arith, c.type_inv.changes i)) s.parts s.units
    c.sort_offsets.ensures.permutation c.sort_offsets.ensures.sorted in
    (e.version, r.ds, r.units)

pub returns-in-Some : goal.returns-in-Some
returns-in-Some c = λ d cs h s is.
    let e = end_meaning c.args.end.now in
    let r = in_order c.args.changes.now c.args.offsets.now cs e.version s.front (s.last ++ s.rest)
    c.sort_offsets.new.offsets (λ i. omega (arith, c.type_inv.changes i)) s.parts s.units
    c.sort_offsets.ensures.permutation c.sort_offsets.ensures.sorted in
    subst (λ f. Outcome (Err f) c.args.changes.now d cs e c.args.output.now c.args.output.now)
    (sym c.refused_with.ensures)
    (refused c.args.changes.now c.args.offsets.now cs e s c.sort_offsets.new.offsets r d is
    c.in-Some.offset c.in-Some.action
    (c.in-Some.ensures e.version e.version d r.ds h r.units (in_row r.ds r.ordered))
    c.args.output.now)

pub returns-in-Some-place_all_made : goal.returns-in-Some-place_all_made
returns-in-Some-place_all_made c = λ d cs h s is.
    let e = end_meaning c.args.end.now in
    let r = in_order c.args.changes.now c.args.offsets.now cs e.version s.front (s.last ++ s.rest)
    c.sort_offsets.new.offsets (λ i. omega (arith, c.type_inv.changes i)) s.parts s.units
    c.sort_offsets.ensures.permutation c.sort_offsets.ensures.sorted in
    made_of c.args.changes.now c.args.offsets.now cs e s c.sort_offsets.new.offsets r d is
    c.args.«data».now c.args.output.now c.place_all_made.new.output h
    (Some c.in-Some-place_all_made.size)
    (c.in-None.ensures e.version e.version d r.ds h r.units (in_row r.ds r.ordered))
    c.in-Some-place_all_made.ensures

pub returns-in-None-place_all_made : goal.returns-in-None-place_all_made
returns-in-None-place_all_made c = λ d cs h s is.
    let e = end_meaning c.args.end.now in
    let r = in_order c.args.changes.now c.args.offsets.now cs e.version s.front (s.last ++ s.rest)
    c.sort_offsets.new.offsets (λ i. omega (arith, c.type_inv.changes i)) s.parts s.units
    c.sort_offsets.ensures.permutation c.sort_offsets.ensures.sorted in
    made_of c.args.changes.now c.args.offsets.now cs e s c.sort_offsets.new.offsets r d is
    c.args.«data».now c.args.output.now c.place_all_made.new.output h None
    (c.in-None.ensures e.version e.version d r.ds h r.units (in_row r.ds r.ordered))
    c.in-None-place_all_made.ensures
