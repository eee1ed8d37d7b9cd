use Rattle.std.proofs.Common.{◌≡◌, rules}
use Rattle.rtr_payload.specs.Payloads.{IsPayload}
use Rattle.rtr_payload.specs.Units.{form}
use Rattle.rtr_payload.specs.Meanings.{key_of}
use Rattle.rtr_payload.proofs.FieldsRead.{form_fields}
use Rattle.rtr_payload.proofs.pdu.payload_unit.RouterKeyPayloadUnit.from_meaning.Goals as goal

pub returns : goal.returns
returns c =
    let a = c.args in
    let is : c.new.result ≡ form a.version a.flags (key_of a.meaning) = search rules in
    let valid : IsPayload (key_of a.meaning) = search rules in
    record {
      bytes = is;
      fields = form_fields c.new.result a.version a.flags (key_of a.meaning) valid is;
    }
