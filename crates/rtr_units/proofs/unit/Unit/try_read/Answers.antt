use Rattle.std.proofs.Common.{◌≡◌, ◌∙◌, arith, sym, ◌++◌}
use Rattle.std.proofs.lemmas.Result.{err_from_is_err_and}
use Rattle.std.proofs.KnownBytes.{Consumes-trans}
use Rattle.rtr_units.specs.StopCauses.{cause_of}
use Rattle.rtr_units.specs.Header.{type_field}
use Rattle.rtr_units.specs.Reading.{of_size, of_type}
use Rattle.rtr_units.specs.HeaderBytes.{header_bytes}
use Rattle.rtr_units.proofs.Headers.{same_header}
use Rattle.rtr_units.proofs.UnitsRead.{alike_stops, typed_is}
use Rattle.rtr_units.proofs.unit.Unit.try_read.Goals as goal

pub returns-in_err-read_payload-clause-bytes : goal.returns-in_err-read_payload-clause-bytes
returns-in_err-read_payload-clause-bytes g c =
    let h = header_bytes c.in_ok-header.header in
    let ((read, (size, range)), count) = c.in_ok-header.ensures.bytes in
    let (eight, ((t, taken, stops), counted)) = c.in_err-read_payload.ensures.bytes in
    let is_type : type_field h ≡ g.Self.Unit.PDU = cc in
    let same : type_field (h ++ t) ≡ type_field h = (same_header h t (omega (arith, size))).kind in
    let p = err_from_is_err_and c.from_residual-in_err-read_payload.result
    c.from_residual-in_err-read_payload.ensures.1 in
    rw (p.1, p.2) (
      h ++ t,
      Consumes-trans _ _ _ _ _ read taken,
      (
        alike_stops (of_size g.Self.Unit.LENGTH)
            (of_type g.Self.Unit.PDU (of_size g.Self.Unit.LENGTH)) (h ++ t)
            (sym (typed_is g.Self.Unit.PDU (of_size g.Self.Unit.LENGTH) (h ++ t)
            (same ∙ is_type)))
            (λ asks. asks) (cause_of c.in_err-read_payload.field-0.0) _ stops,
        λ _ ten. c.if-pdu-eq-PDU.false (c.pdu.ensures.value ∙ sym same ∙ ten),
      ),
    )

-- ---- the counts of failures, and the errors

pub returns-clause-count : goal.returns-clause-count
returns-clause-count g c =
    c.in_ok-read_payload.ensures.bytes.1.1 ∙ c.in_ok-header.ensures.bytes.1

pub returns-clause-error : goal.returns-clause-error
returns-clause-error g c = tt

pub returns-then-pdu-PDU-clause-count : goal.returns-then-pdu-PDU-clause-count
returns-then-pdu-PDU-clause-count g c = c.in_ok-header.ensures.bytes.1

pub returns-then-pdu-PDU-clause-error : goal.returns-then-pdu-PDU-clause-error
returns-then-pdu-PDU-clause-error g c = tt

pub returns-then-pdu-eq-PDU-clause-count : goal.returns-then-pdu-eq-PDU-clause-count
returns-then-pdu-eq-PDU-clause-count g c = c.in_ok-header.ensures.bytes.1

pub returns-then-pdu-eq-PDU-clause-error : goal.returns-then-pdu-eq-PDU-clause-error
returns-then-pdu-eq-PDU-clause-error g c = tt
