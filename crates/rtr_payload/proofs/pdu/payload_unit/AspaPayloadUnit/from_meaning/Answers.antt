use Rattle.rtr_payload.specs.Meanings.{aspa_of}
use Rattle.rtr_payload.proofs.FieldsRead.{form_fields}
use Rattle.rtr_payload.proofs.pdu.payload_unit.AspaPayloadUnit.from_meaning.Goals as goal

pub returns : goal.returns
returns c =
    let a = c.args in
    let made = c.new.ensures in
    record {
      bytes = made.form;
      fields = form_fields c.new.result a.version a.flags (aspa_of a.meaning) made.valid made.form;
    }
