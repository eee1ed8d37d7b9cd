use Rattle.std.proofs.Common.{arith}
use Rattle.rtr_payload.proofs.Frames.{nine_in_order}
use Rattle.rtr_payload.proofs.Variable.{key_too_long, key_length}
use Rattle.unit_views.proofs.Fronts.{first_whole, long_shows, typed_shows, typed_in_order}
use Rattle.unit_views.proofs.router_key.RouterKeyView.first.Goals as goal

pub returns-in-Err-clause-fault : goal.returns-in-Err-clause-fault
returns-in-Err-clause-fault c =
    long_shows c.args.input.now 9 _ c.requires.header c.requires.kind
    (key_too_long _ _ _ c.in-Err.ensures.long.1) c.in-Err.ensures.long.0

pub returns-then-size-lt-FIXED-clause-fault : goal.returns-then-size-lt-FIXED-clause-fault
returns-then-size-lt-FIXED-clause-fault c =
    typed_shows c.args.input.now 9 _ c.requires.header c.requires.kind
    (key_length _ _ _ (omega (arith, c.in-Ok.ensures.size)))

pub first_unit-requires-clause-in_order : goal.first_unit-requires-clause-in_order
first_unit-requires-clause-in_order c =
    typed_in_order c.args.input.now 9 c.requires.kind
    (nine_in_order _ _ _ (omega (arith, c.in-Ok.ensures.size, c.in-Ok.ensures.most))
    (omega (arith, c.in-Ok.ensures.size, c.in-Ok.ensures.most)))

pub invariant_of-result-clause-whole : goal.invariant_of-result-clause-whole
invariant_of-result-clause-whole c =
    let r = c.args.input.now in
    let size = c.in-Ok.ensures.size in
    let order = typed_in_order r 9 c.requires.kind
    (nine_in_order _ _ _ (omega (arith, size, c.in-Ok.ensures.most))
    (omega (arith, size, c.in-Ok.ensures.most))) in
    first_whole 9 r c.in-Ok-first_unit.unit.now (λ i. omega (arith, c.type_inv.input i))
    c.in-Ok-first_unit.ensures.unit c.requires.kind order
    (omega (arith, c.in-Ok-first_unit.ensures.unit.size, size))
