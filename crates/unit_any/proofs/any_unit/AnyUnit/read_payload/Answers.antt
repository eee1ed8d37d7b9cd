use Rattle.std.proofs.Common.{◌≡◌, ◌∙◌, sym, refl, arith, inl, inr}
use Rattle.std.proofs.lemmas.Result.{err_from_is_err_and}
use Rattle.rtr_units.specs.Header.{type_field}
use Rattle.rtr_units.specs.Reading.{of_size}
use Rattle.rtr_units.specs.HeaderBytes.{header_bytes}
use Rattle.rtr_payload.specs.UnitKinds.{payload_unit}
use Rattle.unit_any.specs.AnyFields.{serial_notify, serial_query, reset_query, cache_response}
use Rattle.unit_any.specs.AnyFields.{cache_reset}
use Rattle.unit_any.specs.SessionKinds.{report_unit}
use Rattle.unit_any.proofs.Stops.{twelve_alike, eight_alike, others_alike}
use Rattle.unit_any.proofs.Stops.{report_any, stopped}
use Rattle.unit_any.proofs.Units.{serial_reads, bare_reads, notify_has, query_has}
use Rattle.unit_any.proofs.Units.{reset_query_has, response_has, cache_reset_has, report_has}
use Rattle.unit_any.proofs.Units.{payload_reads, end_reads}
use Rattle.unit_any.proofs.any_unit.AnyUnit.read_payload.Goals as goal

pub returns-in_err-read_payload-in-0-clause-bytes :
    goal.returns-in_err-read_payload-in-0-clause-bytes
returns-in_err-read_payload-in-0-clause-bytes g c =
    let p = err_from_is_err_and c.from_residual.result c.from_residual.ensures.1 in
    rw (p.1, p.2)
    (stopped _ 0 (of_size 12) c.pdu.ensures.header.0 (sym c.pdu.ensures.value ∙ c.in-0.is)
    (λ long kind. twelve_alike _ long 0 kind (inl refl))
    c.in_err-read_payload-in-0.field-0.0 _ _ c.in_err-read_payload-in-0.ensures.bytes)

pub returns-in_err-read_payload-in-1-clause-bytes :
    goal.returns-in_err-read_payload-in-1-clause-bytes
returns-in_err-read_payload-in-1-clause-bytes g c =
    let p = err_from_is_err_and c.from_residual-in_err-read_payload-in-1.result
    c.from_residual-in_err-read_payload-in-1.ensures.1 in
    rw (p.1, p.2)
    (stopped _ 1 (of_size 12) c.pdu.ensures.header.0 (sym c.pdu.ensures.value ∙ c.in-1.is)
    (λ long kind. twelve_alike _ long 1 kind (inr refl))
    c.in_err-read_payload-in-1.field-0.0 _ _ c.in_err-read_payload-in-1.ensures.bytes)

pub returns-in_err-read_payload-in-2-clause-bytes :
    goal.returns-in_err-read_payload-in-2-clause-bytes
returns-in_err-read_payload-in-2-clause-bytes g c =
    let p = err_from_is_err_and c.from_residual-in_err-read_payload-in-2.result
    c.from_residual-in_err-read_payload-in-2.ensures.1 in
    rw (p.1, p.2)
    (stopped _ 2 (of_size 8) c.pdu.ensures.header.0 (sym c.pdu.ensures.value ∙ c.in-2.is)
    (λ long kind. eight_alike _ long 2 kind (inl refl))
    c.in_err-read_payload-in-2.field-0.0 _ _ c.in_err-read_payload-in-2.ensures.bytes)

pub returns-in_err-read_payload-in-3-clause-bytes :
    goal.returns-in_err-read_payload-in-3-clause-bytes
returns-in_err-read_payload-in-3-clause-bytes g c =
    let p = err_from_is_err_and c.from_residual-in_err-read_payload-in-3.result
    c.from_residual-in_err-read_payload-in-3.ensures.1 in
    rw (p.1, p.2)
    (stopped _ 3 (of_size 8) c.pdu.ensures.header.0 (sym c.pdu.ensures.value ∙ c.in-3.is)
    (λ long kind. eight_alike _ long 3 kind (inr (inl refl)))
    c.in_err-read_payload-in-3.field-0.0 _ _ c.in_err-read_payload-in-3.ensures.bytes)

pub returns-in_err-read_payload-in-8-clause-bytes :
    goal.returns-in_err-read_payload-in-8-clause-bytes
returns-in_err-read_payload-in-8-clause-bytes g c =
    let p = err_from_is_err_and c.from_residual-in_err-read_payload-in-8.result
    c.from_residual-in_err-read_payload-in-8.ensures.1 in
    rw (p.1, p.2)
    (stopped _ 8 (of_size 8) c.pdu.ensures.header.0 (sym c.pdu.ensures.value ∙ c.in-8.is)
    (λ long kind. eight_alike _ long 8 kind (inr (inr refl)))
    c.in_err-read_payload-in-8.field-0.0 _ _ c.in_err-read_payload-in-8.ensures.bytes)

pub returns-in_err-read_payload-in-10-clause-bytes :
    goal.returns-in_err-read_payload-in-10-clause-bytes
returns-in_err-read_payload-in-10-clause-bytes g c =
    let p = err_from_is_err_and c.from_residual-in_err-read_payload-in-10.result
    c.from_residual-in_err-read_payload-in-10.ensures.1 in
    rw (p.1, p.2)
    (stopped _ 10 report_unit c.pdu.ensures.header.0 (sym c.pdu.ensures.value ∙ c.in-10.is)
    (λ long kind. report_any _ long kind) c.in_err-read_payload-in-10.field-0.0 _ _
    c.in_err-read_payload-in-10.ensures.bytes)

pub returns-in_ok-read_payload-in-0-clause-bytes : goal.returns-in_ok-read_payload-in-0-clause-bytes
returns-in_ok-read_payload-in-0-clause-bytes g c =
    let h = header_bytes c.args.header in
    let kind : type_field h ≡ 0 = sym c.pdu.ensures.value ∙ c.in-0.is in
    serial_reads h _ _ _ 0 kind serial_notify c.in_ok-read_payload-in-0.ensures.bytes (notify_has _)

pub returns-in_ok-read_payload-in-1-clause-bytes : goal.returns-in_ok-read_payload-in-1-clause-bytes
returns-in_ok-read_payload-in-1-clause-bytes g c =
    let h = header_bytes c.args.header in
    let kind : type_field h ≡ 1 = sym c.pdu.ensures.value ∙ c.in-1.is in
    serial_reads h _ _ _ 1 kind serial_query c.in_ok-read_payload-in-1.ensures.bytes (query_has _)

pub returns-in_ok-read_payload-in-2-clause-bytes : goal.returns-in_ok-read_payload-in-2-clause-bytes
returns-in_ok-read_payload-in-2-clause-bytes g c =
    let h = header_bytes c.args.header in
    let kind : type_field h ≡ 2 = sym c.pdu.ensures.value ∙ c.in-2.is in
    bare_reads h _ _ _ 2 kind reset_query c.in_ok-read_payload-in-2.ensures.bytes
    (reset_query_has _)

pub returns-in_ok-read_payload-in-3-clause-bytes : goal.returns-in_ok-read_payload-in-3-clause-bytes
returns-in_ok-read_payload-in-3-clause-bytes g c =
    let h = header_bytes c.args.header in
    let kind : type_field h ≡ 3 = sym c.pdu.ensures.value ∙ c.in-3.is in
    bare_reads h _ _ _ 3 kind cache_response c.in_ok-read_payload-in-3.ensures.bytes
    (response_has _)

pub returns-in_ok-read_payload-in-8-clause-bytes : goal.returns-in_ok-read_payload-in-8-clause-bytes
returns-in_ok-read_payload-in-8-clause-bytes g c =
    let h = header_bytes c.args.header in
    let kind : type_field h ≡ 8 = sym c.pdu.ensures.value ∙ c.in-8.is in
    bare_reads h _ _ _ 8 kind cache_reset c.in_ok-read_payload-in-8.ensures.bytes
    (cache_reset_has _)

pub returns-in_ok-read_payload-in-10-clause-bytes :
    goal.returns-in_ok-read_payload-in-10-clause-bytes
returns-in_ok-read_payload-in-10-clause-bytes g c =
    let (_, ((takes, is), counts)) = c.in_ok-read_payload-in-10.ensures.bytes in
    ((takes, report_has _ is), counts)

pub returns-in_err-unit-in_default-clause-bytes :
    goal.returns-in_err-unit-in_default-clause-bytes
returns-in_err-unit-in_default-clause-bytes g c =
    let p = err_from_is_err_and c.from_residual-in_err-unit-in_default.result
    c.from_residual-in_err-unit-in_default.ensures.1 in
    rw (p.1, p.2)
    (stopped _ c.pdu.result payload_unit c.pdu.ensures.header.0 (sym c.pdu.ensures.value)
    (λ long kind. others_alike _ long c.pdu.result kind (omega arith) (omega arith) (omega arith)
    (omega arith) (omega arith) (omega arith))
    c.in_err-unit-in_default.field-0.0 _ _ c.in_err-unit-in_default.ensures.bytes)

pub returns-in-Ok-Some-clause-bytes : goal.returns-in-Ok-Some-clause-bytes
returns-in-Ok-Some-clause-bytes g c =
    let unit = c.in_ok-unit-in_default in
    let read = rw (c.in-Ok-Some.is, c.in-Ok-Some.field-0-is) at unit.ensures.bytes in
    let fields = rw (c.in-Ok-Some.is, c.in-Ok-Some.field-0-is) at unit.ensures.fields in
    payload_reads (header_bytes c.args.header) _ _ _ _ read fields

pub returns-in-Err-clause-bytes : goal.returns-in-Err-clause-bytes
returns-in-Err-clause-bytes g c =
    let read = rw c.in-Err.is at c.in_ok-unit-in_default.ensures.bytes in
    let fields = rw c.in-Err.is at c.in_ok-unit-in_default.ensures.fields in
    end_reads (header_bytes c.args.header) c.in-Err.end _ _ read fields

pub returns-in_ok-read_payload-in-0-clause-error : goal.returns-in_ok-read_payload-in-0-clause-error
returns-in_ok-read_payload-in-0-clause-error g c = tt

pub returns-in_ok-read_payload-in-1-clause-error : goal.returns-in_ok-read_payload-in-1-clause-error
returns-in_ok-read_payload-in-1-clause-error g c = tt

pub returns-in_ok-read_payload-in-2-clause-error : goal.returns-in_ok-read_payload-in-2-clause-error
returns-in_ok-read_payload-in-2-clause-error g c = tt

pub returns-in_ok-read_payload-in-3-clause-error : goal.returns-in_ok-read_payload-in-3-clause-error
returns-in_ok-read_payload-in-3-clause-error g c = tt

pub returns-in_ok-read_payload-in-8-clause-error : goal.returns-in_ok-read_payload-in-8-clause-error
returns-in_ok-read_payload-in-8-clause-error g c = tt

pub returns-in_ok-read_payload-in-10-clause-error :
    goal.returns-in_ok-read_payload-in-10-clause-error
returns-in_ok-read_payload-in-10-clause-error g c = tt

pub returns-in-Ok-Some-clause-error : goal.returns-in-Ok-Some-clause-error
returns-in-Ok-Some-clause-error g c = tt

pub returns-in-Err-clause-error : goal.returns-in-Err-clause-error
returns-in-Err-clause-error g c = tt
