use Rattle.std.proofs.Common.{◌≡◌, sym, ◌∙◌}
use Rattle.rtr_units.specs.Header.{type_field}
use Rattle.rtr_units.specs.HeaderBytes.{header_bytes}
use Rattle.rtr_units.specs.Reading.{by_bytes}
use Rattle.rtr_units.proofs.UnitsRead.{read_both}
use Rattle.rtr_payload.specs.UnitKinds.{variable_unit}
use Rattle.rtr_payload.proofs.pdu.variable_unit.VariableUnit.read.Goals as goal

pub returns-clause-bytes : goal.returns-clause-bytes
returns-clause-bytes g c =
    let p = g.B.Body.PDU in
    let h = header_bytes c.in_ok-header.header in
    let kind : type_field h ≡ p =
    sym c.pdu-pdu.ensures.value ∙ c.if-pdu-PDU.false ∙ c.PDU.ensures in
    read_both p (variable_unit p) h (by_bytes (λ u. u) c.read_payload.result) _ _ _ kind
    c.in_ok-header.ensures.bytes c.read_payload.ensures.bytes

pub returns-then-pdu-PDU-clause-fields : goal.returns-then-pdu-PDU-clause-fields
returns-then-pdu-PDU-clause-fields g c = tt

pub returns-then-pdu-PDU-clause-error : goal.returns-then-pdu-PDU-clause-error
returns-then-pdu-PDU-clause-error g c = tt
