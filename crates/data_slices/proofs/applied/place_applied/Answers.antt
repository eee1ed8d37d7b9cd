use Rattle.std.proofs.Common.{refl, true}
use Rattle.data_slices.proofs.Applying.{begins, ended, passes, stops, writes}
use Rattle.data_slices.proofs.Leasts.{under_least, under_stays}
use Rattle.data_slices.proofs.applied.place_applied.Goals as goal
use Rattle.data_slices.proofs.applied.place_applied.Goals.{in-Some-after_withdrawal}
use Rattle.data_slices.proofs.applied.place_applied.Goals.{
  in-None-after_withdrawal+in-Some-place_unit-3,
}

pub units-init : goal.units-init
units-init c =
    begins c.args.old.now c.args.announced.now c.args.withdrawn.now c.args.output.now
    c.next_change-bound.result c.next_change-bound.ensures

pub returns-in-None-least_of-clause-bytes : goal.returns-in-None-least_of-clause-bytes
returns-in-None-least_of-clause-bytes c =
    let u = c.units in
    ended c.args.old.now c.args.announced.now c.args.withdrawn.now u.old_rest.now u.new_rest.now
    u.withdrawn_rest.now c.args.output.now u.output u.written u.bound u.invariant
    (c.in-None-least_of.ensures.none refl)

pub units-preserved-in-Some : goal.units-preserved-in-Some
units-preserved-in-Some c =
    let u = c.units in
    let v = c.in-Some.view in
    let left = c.in-Some.left.now in
    writes c.args.old.now c.args.announced.now c.args.withdrawn.now u.old_rest.now u.new_rest.now
    u.withdrawn_rest.now c.args.output.now u.output u.written u.bound u.invariant v true left
    u.new_rest.now
    (under_least u.old_rest.now u.new_rest.now u.withdrawn_rest.now v left c.in-Some.ensures.unit
    u.bound u.invariant.bounds c.in-Some.ensures.under)
    (under_stays u.old_rest.now u.new_rest.now u.withdrawn_rest.now v left c.in-Some.ensures.unit
    u.bound u.invariant.bounds c.in-Some.ensures.under)
    c.place_unit.new.output u.bound u.invariant.bounds c.in-Some-place_unit.size
    c.in-Some-place_unit.ensures

pub returns-in-None-clause-bytes : goal.returns-in-None-clause-bytes
returns-in-None-clause-bytes c =
    let u = c.units in
    let v = c.in-Some.view in
    let left = c.in-Some.left.now in
    stops c.args.old.now c.args.announced.now c.args.withdrawn.now u.old_rest.now u.new_rest.now
    u.withdrawn_rest.now c.args.output.now u.output u.written u.bound u.invariant v true left
    u.new_rest.now
    (under_least u.old_rest.now u.new_rest.now u.withdrawn_rest.now v left c.in-Some.ensures.unit
    u.bound u.invariant.bounds c.in-Some.ensures.under)
    (under_stays u.old_rest.now u.new_rest.now u.withdrawn_rest.now v left c.in-Some.ensures.unit
    u.bound u.invariant.bounds c.in-Some.ensures.under)
    c.place_unit.new.output c.in-None.ensures

pub units-preserved-in-Some-next_under : goal.units-preserved-in-Some-next_under
units-preserved-in-Some-next_under c =
    let u = c.units in
    let next = c.in-Some-next_under in
    let v = next.view in
    let left = next.left.now in
    writes c.args.old.now c.args.announced.now c.args.withdrawn.now u.old_rest.now u.new_rest.now
    u.withdrawn_rest.now c.args.output.now u.output u.written u.bound u.invariant v true left
    u.new_rest.now
    (under_least u.old_rest.now u.new_rest.now u.withdrawn_rest.now v left next.ensures.unit
    u.bound u.invariant.bounds next.ensures.under)
    (under_stays u.old_rest.now u.new_rest.now u.withdrawn_rest.now v left next.ensures.unit
    u.bound u.invariant.bounds next.ensures.under)
    c.place_unit-in-Some-next_under.new.output u.bound u.invariant.bounds
    c.in-Some-place_unit-2.size c.in-Some-place_unit-2.ensures

pub returns-in-None-place_unit-clause-bytes : goal.returns-in-None-place_unit-clause-bytes
returns-in-None-place_unit-clause-bytes c =
    let u = c.units in
    let next = c.in-Some-next_under in
    let v = next.view in
    let left = next.left.now in
    stops c.args.old.now c.args.announced.now c.args.withdrawn.now u.old_rest.now u.new_rest.now
    u.withdrawn_rest.now c.args.output.now u.output u.written u.bound u.invariant v true left
    u.new_rest.now
    (under_least u.old_rest.now u.new_rest.now u.withdrawn_rest.now v left next.ensures.unit
    u.bound u.invariant.bounds next.ensures.under)
    (under_stays u.old_rest.now u.new_rest.now u.withdrawn_rest.now v left next.ensures.unit
    u.bound u.invariant.bounds next.ensures.under)
    c.place_unit-in-Some-next_under.new.output c.in-None-place_unit.ensures

pub units-preserved : goal.units-preserved
units-preserved c =
    let u = c.units in
    let l = c.in-Some-least_of.least in
    let next = c.next_change-bound-in-units in
    elim c.match-after_withdrawal.branch [
      | in-Some-after_withdrawal w ↦
          rw (w.output-is, w.withdrawn_rest-is, w.written-is)
          (passes c.args.old.now c.args.announced.now c.args.withdrawn.now u.old_rest.now
          u.new_rest.now u.withdrawn_rest.now c.args.output.now u.output u.written u.bound
          u.invariant l.view l.is_old l.old.now l.new.now c.in-Some-least_of.ensures.least
          w.in-Some-after_withdrawal.left.now w.in-Some-after_withdrawal.ensures next.result
          (rw w.withdrawn_rest-is at next.ensures))
      | in-None-after_withdrawal+in-Some-place_unit-3 w ↦
          rw (w.output-is, w.withdrawn_rest-is, w.written-is)
          (writes c.args.old.now c.args.announced.now c.args.withdrawn.now u.old_rest.now
          u.new_rest.now u.withdrawn_rest.now c.args.output.now u.output u.written u.bound
          u.invariant l.view l.is_old l.old.now l.new.now c.in-Some-least_of.ensures.least
          w.in-None-after_withdrawal.ensures w.place_unit-in-None-after_withdrawal.new.output
          next.result (rw w.withdrawn_rest-is at next.ensures) w.in-Some-place_unit-3.size
          w.in-Some-place_unit-3.ensures)
    ]

pub returns-in-None-place_unit-2-clause-bytes :
    goal.returns-in-None-place_unit-2-clause-bytes
returns-in-None-place_unit-2-clause-bytes c =
    let u = c.units in
    let l = c.in-Some-least_of.least in
    stops c.args.old.now c.args.announced.now c.args.withdrawn.now u.old_rest.now u.new_rest.now
    u.withdrawn_rest.now c.args.output.now u.output u.written u.bound u.invariant l.view l.is_old
    l.old.now l.new.now c.in-Some-least_of.ensures.least c.in-None-after_withdrawal.ensures
    c.place_unit-in-None-after_withdrawal.new.output c.in-None-place_unit-2.ensures
