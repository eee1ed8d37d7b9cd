use Rattle.rtr_units.specs.Reading.{by_bytes}
use Rattle.rtr_units.specs.HeaderBytes.{header_bytes}
use Rattle.rtr_units.proofs.UnitsRead.{reads_on}
use Rattle.rtr_payload.specs.UnitKinds.{payload_unit}
use Rattle.rtr_payload.specs.UnitBytes.{answer_bytes}
use Rattle.rtr_payload.proofs.pdu.payload.Payload.read.Goals as goal

pub returns-clause-bytes : goal.returns-clause-bytes
returns-clause-bytes g c =
    reads_on payload_unit (header_bytes c.in_ok-header.header)
    (by_bytes answer_bytes c.read_payload.result) _ _ _ c.in_ok-header.ensures.bytes
    c.read_payload.ensures.bytes.1
