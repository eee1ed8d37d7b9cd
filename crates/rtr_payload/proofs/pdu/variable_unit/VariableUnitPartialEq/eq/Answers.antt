use Rattle.std.proofs.Common.{refl, arith}
use Rattle.rtr_payload.proofs.Joined.{pointwise-append}
use Rattle.rtr_payload.proofs.pdu.variable_unit.VariableUnitPartialEq.eq.Goals as goal

pub returns-then-eq : goal.returns-then-eq
returns-then-eq g c =
    let split =
    pointwise-append c.self.inside.fixed c.other.inside.fixed (g.B.Body.items c.self.inside.body)
    (g.B.Body.items c.other.inside.body) (omega (arith, c.self.invariant.0, c.other.invariant.0)) in
    rw (
      ← c.self.view_is,
      ← c.other.view_is,
      split,
      ← c.eq.ensures,
      c.if-eq.true,
      ← c.as_slice.ensures.value,
      ← c.as_slice-then-eq.ensures.value,
    )
    c.eq-then-eq.ensures

pub returns-else-eq : goal.returns-else-eq
returns-else-eq g c =
    let split =
    pointwise-append c.self.inside.fixed c.other.inside.fixed (g.B.Body.items c.self.inside.body)
    (g.B.Body.items c.other.inside.body) (omega (arith, c.self.invariant.0, c.other.invariant.0)) in
    rw (← c.self.view_is, ← c.other.view_is, split, ← c.eq.ensures, c.if-eq.false) refl
