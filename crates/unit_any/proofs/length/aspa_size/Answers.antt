use Rattle.std.proofs.Common.{arith, inl, inr, refl}
use Rattle.rtr_payload.proofs.Variable.{aspa_too_long}
use Rattle.unit_views.proofs.Fronts.{aspa_length, aspa_no_providers, aspa_in_order}
use Rattle.unit_any.proofs.length.aspa_size.Goals as goal
use Rattle.unit_any.proofs.length.aspa_size.Goals.{
  then-size-via-then-size,
  then-size-via-else-size+then-size-ne0,
  else-size-2-via-then-size-2+else-flags-eq1,
  else-size-2-via-else-size-2,
}

pub returns-then-size-gt-MAX_SIZE : goal.returns-then-size-gt-MAX_SIZE
returns-then-size-gt-MAX_SIZE c = λ u. aspa_too_long _ _ _ (omega arith)

pub returns-then-size : goal.returns-then-size
returns-then-size c = λ u. aspa_length _ _ _ (omega arith) (elim c.then-size.branch [
  | then-size-via-then-size w ↦ inl (omega (arith, w.if-size.true))
  | then-size-via-else-size+then-size-ne0 w ↦ inr w.if-size-ne0.true
])

pub returns-then-flags-eq1 : goal.returns-then-flags-eq1
returns-then-flags-eq1 c = λ u. aspa_no_providers _ _ _ c.if-size-2.true c.if-flags-eq1.true

pub returns : goal.returns
returns c = (
  elim c.else-size-2.branch [
    | else-size-2-via-then-size-2+else-flags-eq1 w ↦
        aspa_in_order _ _ _ (omega arith) (omega arith) c.if-size-ne0.false
        (inr w.if-flags-eq1.false)
    | else-size-2-via-else-size-2 w ↦
        aspa_in_order _ _ _ (omega arith) (omega arith) c.if-size-ne0.false
        (inl w.if-size-2.false)
  ],
  refl,
)
