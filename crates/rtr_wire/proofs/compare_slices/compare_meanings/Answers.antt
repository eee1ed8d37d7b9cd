use Rattle.std.proofs.Common.{◌≡◌, refl, subst, arith}
use Rattle.std.proofs.lemmas.Result.{err_from_is_err_and}
use Rattle.rtr_wire.proofs.SlicesCompared.{both_start, both_go_on, both_end, both_differ}
use Rattle.rtr_wire.proofs.SlicesCompared.{left_stops, right_stops, left_too_many}
use Rattle.rtr_wire.proofs.Walking.{Walked}
use Rattle.rtr_wire.proofs.compare_slices.compare_meanings.Goals as goal

pub loop-count-init : goal.loop-count-init
loop-count-init c = both_start c.args.left.now c.args.right.now

pub returns-then-not-is_unit : goal.returns-then-not-is_unit
returns-then-not-is_unit c =
    both_end c.args.limit c.loop-count.count c.args.left.now c.args.right.now
    c.loop-count.left_rest.now c.loop-count.right_rest.now c.in-Some.after_left.now
    c.in-Some.after_right.now c.loop-count-test.true c.loop-count.invariant
    (rw c.if-not-is_unit.true at c.in-Some.ensures.same)

pub loop-count-preserved : goal.loop-count-preserved
loop-count-preserved c =
    both_go_on c.loop-count.count c.args.left.now c.args.right.now
    c.loop-count.left_rest.now c.loop-count.right_rest.now c.in-Some.after_left.now
    c.in-Some.after_right.now c.loop-count.invariant
    (rw c.if-not-is_unit.false at c.in-Some.ensures.same)

pub returns-in_err-check_side-in-None : goal.returns-in_err-check_side-in-None
returns-in_err-check_side-in-None c =
    let p = err_from_is_err_and c.from_residual.result c.from_residual.ensures.1 in
    let (offset, last, at, is) = c.in_err-check_side-in-None.ensures.refused in
    rw (p.1, p.2)
    (left_stops c.args.limit c.loop-count.count c.args.left.now c.args.right.now
    c.loop-count.left_rest.now c.in_err-check_side-in-None.field-0.0 offset last
    c.loop-count-test.true c.loop-count.invariant.first
    c.in_err-check_side-in-None.ensures.side at is)

pub returns-in_err-check_side-in-None-2 : goal.returns-in_err-check_side-in-None-2
returns-in_err-check_side-in-None-2 c =
    let p = err_from_is_err_and c.from_residual-in_err-check_side-in-None-2.result
    c.from_residual-in_err-check_side-in-None-2.ensures.1 in
    let (offset, last, at, is) = c.in_err-check_side-in-None-2.ensures.refused in
    rw (p.1, p.2)
    (right_stops c.args.limit c.loop-count.count c.args.left.now c.args.right.now
    c.loop-count.left_rest.now c.loop-count.right_rest.now
    c.in_err-check_side-in-None-2.field-0.0 offset last c.loop-count-test.true
    c.loop-count.invariant.first c.loop-count.invariant.second
    c.in_ok-check_side-in-None.ensures.accepted
    c.in_err-check_side-in-None-2.ensures.side at is)

pub returns-in-None : goal.returns-in-None
returns-in-None c =
    both_differ c.args.limit c.loop-count.count c.args.left.now c.args.right.now
    c.loop-count.left_rest.now c.loop-count.right_rest.now c.loop-count-test.true
    c.loop-count.invariant (c.in-None.ensures.different refl)
    c.in_ok-check_side-in-None.ensures.accepted c.in_ok-check_side-in-None-2.ensures.accepted

pub returns : goal.returns
returns c =
    let full : c.loop-count.count ≡ c.args.limit =
    omega (arith, c.loop-count.auto.count-end, c.loop-count-test.false) in
    left_too_many c.args.limit c.args.left.now c.args.right.now c.loop-count.left_rest.now
    (subst (λ n. Walked n c.args.left.now c.loop-count.left_rest.now) full
    c.loop-count.invariant.first)
