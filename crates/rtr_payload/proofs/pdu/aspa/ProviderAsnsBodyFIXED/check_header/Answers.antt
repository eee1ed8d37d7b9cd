use Rattle.std.proofs.Common.{◌≡◌, ◌≢◌, ◌%◌, ℕ, List, get_or, Some, sym, ap, ◌∙◌, arith}
use Rattle.rtr_units.specs.StopCauses.{unit_length}
use Rattle.rtr_units.specs.Header.{length_field, version_field}
use Rattle.rtr_units.specs.HeaderBytes.{header_bytes}
use Rattle.rtr_payload.specs.UnitKinds.{variable_unit}
use Rattle.rtr_payload.proofs.Frames.{eleven_in_order}
use Rattle.rtr_payload.proofs.Variable.{aspa_too_long, aspa_short, aspa_uneven, aspa_empty}
use Rattle.rtr_payload.proofs.Wholes.{aspa_body}
use Rattle.rtr_payload.proofs.pdu.aspa.ProviderAsnsBodyFIXED.check_header.Goals as goal
use Rattle.rtr_payload.proofs.pdu.aspa.ProviderAsnsBodyFIXED.check_header.Goals.{
  then-size-via-then-size,
  then-size-via-else-size+then-size-ne0,
}
use Rattle.rtr_payload.proofs.pdu.aspa.ProviderAsnsBodyFIXED.check_header.Goals.{
  else-size-2-via-then-size-2+else-head-eq1,
  else-size-2-via-else-size-2,
}

pub returns-then-size-gt-MAX_SIZE-clause-answer : goal.returns-then-size-gt-MAX_SIZE-clause-answer
returns-then-size-gt-MAX_SIZE-clause-answer c =
    aspa_too_long _ _ _ (omega (arith, c.length-size.ensures.value))

pub returns-then-size-clause-answer : goal.returns-then-size-clause-answer
returns-then-size-clause-answer c =
    let fault : (variable_unit 11).fault (header_bytes c.args.header) ≡ Some unit_length =
    elim c.then-size.branch [
      | then-size-via-then-size w ↦ aspa_short _ _ _ (omega (arith, c.length-size.ensures.value))
      | then-size-via-else-size+then-size-ne0 w ↦
          aspa_uneven _ _ _ (omega (arith, c.length-size.ensures.value))
          (λ even. w.if-size-ne0.true (ap (λ (n : ℕ). n % 4) c.length-size.ensures.value ∙ even))
    ] in
    fault

pub returns-then-head-eq1-clause-answer : goal.returns-then-head-eq1-clause-answer
returns-then-head-eq1-clause-answer c =
    let h = header_bytes c.args.header in
    let twelve : length_field h ≡ 12 = sym c.length-size.ensures.value ∙ c.if-size-2.true in
    let odd : get_or h 2 0 % 2 ≡ 1 = rw c.as_ref-head.ensures.bytes at c.if-head-eq1.true in
    rw twelve (aspa_empty (version_field h) (get_or h 2 0) odd)

pub returns-clause-answer : goal.returns-clause-answer
returns-clause-answer c =
    let h = header_bytes c.args.header in
    let even : length_field h % 4 ≡ 0 =
    ap (λ (n : ℕ). n % 4) (sym c.length-size.ensures.value) ∙ c.if-size-ne0.false in
    let named : length_field h ≡ 12 → get_or h 2 0 % 2 ≢ 1 = elim c.else-size-2.branch [
      | else-size-2-via-then-size-2+else-head-eq1 w ↦ λ e odd.
          w.if-head-eq1.false (ap (λ (l : List ℕ). get_or l 2 0 % 2) c.as_ref-head.ensures.bytes
          ∙ odd)
      | else-size-2-via-else-size-2 w ↦
          λ e. absurd (w.if-size-2.false (c.length-size.ensures.value ∙ e))
    ] in
    eleven_in_order _ _ _ (omega (arith, c.length-size.ensures.value))
    (omega (arith, c.length-size.ensures.value)) even named

pub returns-clause-whole : goal.returns-clause-whole
returns-clause-whole c = aspa_body
