use Rattle.std.proofs.Common.{sym, ◌∙◌}
use Rattle.rtr_clean.specs.PrivateClean.{bytes_to_write, form_held}
use Rattle.rtr_clean.proofs.Passing.{answer, not_flushed, not_read, refused}
use Rattle.rtr_clean.proofs.clean.pass.Goals as goal

pub returns-in-Err-clause-bytes : goal.returns-in-Err-clause-bytes
returns-in-Err-clause-bytes g c =
    not_read (form_held c.args.wanted) c.in-Err.fault _ _ _ c.in-Err.ensures.bytes.0

pub returns-in-Err-form-clause-bytes : goal.returns-in-Err-form-clause-bytes
returns-in-Err-form-clause-bytes g c =
    let read = rw c.in-Ok-Some.field-0-is at c.in-Ok-Some.ensures.bytes in
    refused (form_held c.args.wanted) c.in-Ok-Some.unit c.in-Err-form.fault _ _ _ read.0.0
    c.in-Err-form.ensures.fault

pub returns-in-Ok-flush-clause-bytes : goal.returns-in-Ok-flush-clause-bytes
returns-in-Ok-flush-clause-bytes g c =
    let read = rw c.in-Ok-Some.field-0-is at c.in-Ok-Some.ensures.bytes in
    let written = c.in-Ok.ensures.written in
    answer (form_held c.args.wanted) c.in-Ok-Some.unit read.0.1 written.0
    (bytes_to_write c.in-Ok.clean) written.1 _ _ _ read.0.0 _ _ c.in-Ok-flush.flushed
    c.in-Ok-write.ensures.0 c.in-Ok-flush.ensures.0
    (sym c.ends_answer-is_last.ensures ∙ c.if-not-is_last.false)

pub returns-in-Err-flush-clause-bytes : goal.returns-in-Err-flush-clause-bytes
returns-in-Err-flush-clause-bytes g c =
    let read = rw c.in-Ok-Some.field-0-is at c.in-Ok-Some.ensures.bytes in
    let written = c.in-Ok.ensures.written in
    not_flushed (form_held c.args.wanted) c.in-Ok-Some.unit read.0.1 written.0
    (bytes_to_write c.in-Ok.clean) written.1 _ _ _ read.0.0 c.in-Err-flush.fault _ _
    c.in-Ok-write.ensures.0 c.in-Err-flush.ensures.0
    (sym c.ends_answer-is_last.ensures ∙ c.if-not-is_last.false) c.in-Err-flush.ensures.1
