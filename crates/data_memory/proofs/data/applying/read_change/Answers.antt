use Rattle.std.proofs.Common.{Some, []}
use Rattle.std.proofs.lemmas.Result.{err_from_is_err_and}
use Rattle.data_memory.proofs.Applied.{not_meant, not_read, unit_read}
use Rattle.data_memory.proofs.data.applying.read_change.Goals as goal

pub returns-in_err-unit-clause-bytes : goal.returns-in_err-unit-clause-bytes
returns-in_err-unit-clause-bytes g c =
    let p = err_from_is_err_and c.from_residual.result c.from_residual.ensures.1 in
    rw (p.1, p.2)
    (not_read c.in_err-unit.field-0.0 _ _ c.in_err-unit.ensures.bytes.0
    (c.plain_way.ensures.unread c.in_err-unit.field-0.0 _ _ (Some [])
    c.in_err-unit.ensures.bytes.0))

pub returns-in_err-into_payload-in-Ok-Some-clause-bytes :
    goal.returns-in_err-into_payload-in-Ok-Some-clause-bytes
returns-in_err-into_payload-in-Ok-Some-clause-bytes g c =
    let residual = c.from_residual-in_err-into_payload-in-Ok-Some in
    let p = err_from_is_err_and residual.result residual.ensures.1 in
    let fault = c.in_err-into_payload-in-Ok-Some.field-0.0 in
    let bytes = rw (c.in-Ok-Some.is, c.in-Ok-Some.field-0-is) at c.in_ok-unit.ensures.bytes in
    let fields = rw (c.in-Ok-Some.is, c.in-Ok-Some.field-0-is) at c.in_ok-unit.ensures.fields in
    rw (p.1, p.2)
    (not_meant c.in-Ok-Some.unit fault _ _ c.in_err-into_payload-in-Ok-Some.ensures.err
    (c.plain_way.ensures.refused c.in-Ok-Some.unit fault _ _ (Some []) bytes.0 fields
    c.in_err-into_payload-in-Ok-Some.ensures.err))

pub returns-in_ok-into_payload-in-Ok-Some-clause-bytes :
    goal.returns-in_ok-into_payload-in-Ok-Some-clause-bytes
returns-in_ok-into_payload-in-Ok-Some-clause-bytes g c =
    let bytes = rw (c.in-Ok-Some.is, c.in-Ok-Some.field-0-is) at c.in_ok-unit.ensures.bytes in
    let fields = rw (c.in-Ok-Some.is, c.in-Ok-Some.field-0-is) at c.in_ok-unit.ensures.fields in
    let m = c.in_ok-into_payload-in-Ok-Some in
    unit_read c.in-Ok-Some.unit m.field-0.0 m.field-0.1 _ _ bytes.0 fields m.ensures.ok
