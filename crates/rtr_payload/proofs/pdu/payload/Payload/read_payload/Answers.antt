use Rattle.std.proofs.Common.{◌∙◌, sym, arith, Ok, Err}
use Rattle.std.proofs.lemmas.Result.{err_from_is_err_and}
use Rattle.rtr_units.specs.StopCauses.{cause_of}
use Rattle.rtr_units.specs.AnyEnd.{end_bytes}
use Rattle.rtr_units.specs.HeaderBytes.{header_bytes}
use Rattle.rtr_payload.proofs.Reading.{end_after, none_after}
use Rattle.rtr_payload.proofs.pdu.payload.Payload.read_payload.Goals as goal

pub returns-in_ok-read_payload-in-7-clause-bytes : goal.returns-in_ok-read_payload-in-7-clause-bytes
returns-in_ok-read_payload-in-7-clause-bytes g c =
    end_after (header_bytes c.args.header) (Ok (end_bytes c.in_ok-read_payload-in-7.field-0)) _ _
    (sym c.pdu.ensures.value ∙ c.in-7.is) c.in_ok-read_payload-in-7.ensures.bytes

pub returns-in_err-read_payload-in-7-clause-bytes :
    goal.returns-in_err-read_payload-in-7-clause-bytes
returns-in_err-read_payload-in-7-clause-bytes g c =
    let p = err_from_is_err_and c.from_residual.result c.from_residual.ensures.1 in
    rw (p.1, p.2)
    (end_after (header_bytes c.args.header) (Err (cause_of c.in_err-read_payload-in-7.field-0.0)) _
    _ (sym c.pdu.ensures.value ∙ c.in-7.is) c.in_err-read_payload-in-7.ensures.bytes)

pub returns-in_default-clause-bytes : goal.returns-in_default-clause-bytes
returns-in_default-clause-bytes g c =
    none_after (header_bytes c.args.header) c.pdu.result _ c.pdu.ensures.header
    (sym c.pdu.ensures.value) (omega arith) (omega arith) (omega arith) (omega arith) (omega arith)

pub returns-in_ok-read_payload-in-7-clause-error : goal.returns-in_ok-read_payload-in-7-clause-error
returns-in_ok-read_payload-in-7-clause-error g c = tt

pub returns-in_default-clause-fields : goal.returns-in_default-clause-fields
returns-in_default-clause-fields g c = tt

pub returns-in_default-clause-error : goal.returns-in_default-clause-error
returns-in_default-clause-error g c = tt
