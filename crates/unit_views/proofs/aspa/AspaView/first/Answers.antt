use Rattle.std.proofs.Common.{arith, inl, inr, ◌≡◌, ℕ, ◌%◌, sym, ap, ◌∙◌}
use Rattle.rtr_units.specs.Header.{length_field}
use Rattle.rtr_payload.proofs.Variable.{aspa_too_long}
use Rattle.unit_views.proofs.Fronts.{first_whole, long_shows, typed_shows, typed_in_order}
use Rattle.unit_views.proofs.Fronts.{aspa_length, aspa_no_providers, aspa_in_order}
use Rattle.unit_views.proofs.aspa.AspaView.first.Goals as goal
use Rattle.unit_views.proofs.aspa.AspaView.first.Goals.{
  then-size-lt-FIXED-via-then-size-lt-FIXED,
  then-size-lt-FIXED-via-else-size-lt-FIXED+then-size-ne0,
  else-size-eq-FIXED-via-then-size-eq-FIXED+else-input-eq1,
  else-size-eq-FIXED-via-else-size-eq-FIXED,
}

pub returns-in-Err-clause-fault : goal.returns-in-Err-clause-fault
returns-in-Err-clause-fault c =
    long_shows c.args.input.now 11 _ c.requires.header c.requires.kind
    (aspa_too_long _ _ _ c.in-Err.ensures.long.1) c.in-Err.ensures.long.0

pub returns-then-size-lt-FIXED-clause-fault : goal.returns-then-size-lt-FIXED-clause-fault
returns-then-size-lt-FIXED-clause-fault c =
    let is = c.in-Ok.ensures.size in
    typed_shows c.args.input.now 11 _ c.requires.header c.requires.kind
    (aspa_length _ _ _ (omega (arith, is, c.in-Ok.ensures.most))
    (elim c.then-size-lt-FIXED.branch [
      | then-size-lt-FIXED-via-then-size-lt-FIXED w ↦
          inl (omega (arith, is, c.in-Ok.ensures.most, w.if-size-lt-FIXED.true))
      | then-size-lt-FIXED-via-else-size-lt-FIXED+then-size-ne0 w ↦
          inr (λ e. w.if-size-ne0.true (ap (λ (n : ℕ). n % 4) is ∙ e))
    ]))

pub returns-then-input-eq1-clause-fault : goal.returns-then-input-eq1-clause-fault
returns-then-input-eq1-clause-fault c =
    typed_shows c.args.input.now 11 _ c.requires.header c.requires.kind
    (aspa_no_providers _ _ _ (sym c.in-Ok.ensures.size ∙ c.if-size-eq-FIXED.true)
    c.if-input-eq1.true)

pub first_unit-requires-clause-in_order : goal.first_unit-requires-clause-in_order
first_unit-requires-clause-in_order c =
    let is = c.in-Ok.ensures.size in
    let fours : length_field c.args.input.now % 4 ≡ 0 =
    ap (λ (n : ℕ). n % 4) (sym is) ∙ c.if-size-ne0.false in
    typed_in_order c.args.input.now 11 c.requires.kind (elim c.else-size-eq-FIXED.branch [
      | else-size-eq-FIXED-via-then-size-eq-FIXED+else-input-eq1 w ↦
          aspa_in_order _ _ _ (omega (arith, is, c.in-Ok.ensures.most))
          (omega (arith, is, c.in-Ok.ensures.most)) fours (inr w.if-input-eq1.false)
      | else-size-eq-FIXED-via-else-size-eq-FIXED w ↦
          aspa_in_order _ _ _ (omega (arith, is, c.in-Ok.ensures.most))
          (omega (arith, is, c.in-Ok.ensures.most)) fours
          (inl (λ e. w.if-size-eq-FIXED.false (is ∙ e)))
    ])

pub invariant_of-result-clause-whole : goal.invariant_of-result-clause-whole
invariant_of-result-clause-whole c =
    let r = c.args.input.now in
    let is = c.in-Ok.ensures.size in
    let fours : length_field r % 4 ≡ 0 = ap (λ (n : ℕ). n % 4) (sym is) ∙ c.if-size-ne0.false in
    let order = typed_in_order r 11 c.requires.kind (elim c.else-size-eq-FIXED.branch [
      | else-size-eq-FIXED-via-then-size-eq-FIXED+else-input-eq1 w ↦
          aspa_in_order _ _ _ (omega (arith, is, c.in-Ok.ensures.most))
          (omega (arith, is, c.in-Ok.ensures.most)) fours (inr w.if-input-eq1.false)
      | else-size-eq-FIXED-via-else-size-eq-FIXED w ↦
          aspa_in_order _ _ _ (omega (arith, is, c.in-Ok.ensures.most))
          (omega (arith, is, c.in-Ok.ensures.most)) fours
          (inl (λ e. w.if-size-eq-FIXED.false (is ∙ e)))
    ]) in
    first_whole 11 r c.in-Ok-first_unit.unit.now (λ i. omega (arith, c.type_inv.input i))
    c.in-Ok-first_unit.ensures.unit c.requires.kind order
    (omega (arith, c.in-Ok-first_unit.ensures.unit.size, is))
