use Rattle.std.proofs.Common.{◌≡◌, List, ℕ, ◌++◌, [], take, sym, ap, subst, ◌∙◌, arith}
use Rattle.std.proofs.lemmas.List.{take-append-drop}
use Rattle.rtr_wire.proofs.Fronts.{unit_seen, end_seen}
use Rattle.rtr_wire.proofs.Walking.{Walked, starts, goes_on, at_end, at_limit, at_fault}
use Rattle.rtr_wire.proofs.compare_slices.check.Goals as goal

pub loop-init : goal.loop-init
loop-init c = starts c.args.input.now

pub returns-then-not-is_unit-clause-accepted : goal.returns-then-not-is_unit-clause-accepted
returns-then-not-is_unit-clause-accepted c =
    let r = c.loop.rest.now in
    let n = c.in-Ok.size in
    let parts =
    sym (ap (λ (l : List ℕ). take n r ++ l) c.split_at.ensures.back ∙ take-append-drop n r) in
    let (e, end) = end_seen c.in-Ok.view (take n r) c.in-Ok.ensures.view
    (sym c.is_unit.ensures ∙ c.if-not-is_unit.true) in (
      c.loop.invariant.ms,
      e,
      at_end c.args.limit c.loop.counter c.args.input.now r (take n r) c.split_at.result.1.now e
          c.loop-test.true c.loop.invariant parts end,
    )

pub returns-in-Err-clause-refused : goal.returns-in-Err-clause-refused
returns-in-Err-clause-refused c =
    at_fault c.args.limit c.loop.counter c.in-Err.fault c.args.input.now c.loop.rest.now
    c.loop-test.true c.loop.invariant (λ i. omega (arith, c.type_inv.input i))
    c.in-Err.ensures.fault

pub loop-preserved : goal.loop-preserved
loop-preserved c =
    let r = c.loop.rest.now in
    let n = c.in-Ok.size in
    let parts =
    sym (ap (λ (l : List ℕ). take n r ++ l) c.split_at.ensures.back ∙ take-append-drop n r) in
    let (m, unit) = unit_seen c.in-Ok.view (take n r) c.in-Ok.ensures.view
    (sym c.is_unit.ensures ∙ c.if-not-is_unit.false) in
    goes_on c.loop.counter c.args.input.now r (take n r) c.split_at.result.1.now m
    c.loop.invariant parts unit

pub returns-clause-refused : goal.returns-clause-refused
returns-clause-refused c =
    let full : c.loop.counter ≡ c.args.limit =
    omega (arith, c.loop.auto.counter-end, c.loop-test.false) in (
      [],
      at_limit c.args.limit c.args.input.now c.loop.rest.now
          (subst (λ n. Walked n c.args.input.now c.loop.rest.now) full c.loop.invariant),
    )
