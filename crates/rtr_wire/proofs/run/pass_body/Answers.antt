use Rattle.std.proofs.lemmas.Result.{err_from_is_err_and}
use Rattle.std.proofs.Common.{◌++◌, Ok, Err, refl, sym, ◌∙◌}
use Rattle.rtr_units.specs.StopCauses.{cause_of}
use Rattle.rtr_units.specs.HeaderBytes.{header_bytes}
use Rattle.rtr_units.proofs.UnitsRead.{read_on}
use Rattle.rtr_payload.specs.UnitFields.{meaning}
use Rattle.rtr_payload.specs.UnitKinds.{payload_unit}
use Rattle.rtr_payload.proofs.Reading.{variable_after}
use Rattle.rtr_wire.specs.Sequences.{in_version}
use Rattle.rtr_wire.proofs.KeptUnits.{not_written, written, partly_written}
use Rattle.rtr_wire.proofs.Units.{not_read_after}
use Rattle.rtr_wire.proofs.Written.{none_written, one_written}
use Rattle.rtr_wire.proofs.run.pass_body.Goals as goal

pub returns-in_err-unit-clause-bytes : goal.returns-in_err-unit-clause-bytes
returns-in_err-unit-clause-bytes g c is before took =
    let p = err_from_is_err_and c.from_residual.result c.from_residual.ensures.1 in
    let e = c.in_err-unit.field-0.0 in
    let h = header_bytes c.args.header in
    let reads = variable_after _ g.met.B.Body.kinds h (Err (cause_of e)) _ _ c.requires
    c.in_err-unit.ensures.bytes in
    rw (p.1, p.2)
    (not_read_after (g.S.Writing.what c.args.writing) e h before _ _ _ took reads.1.0)

pub returns-then-not-writes-clause-bytes : goal.returns-then-not-writes-clause-bytes
returns-then-not-writes-clause-bytes g c is before took =
    let what = g.S.Writing.what c.args.writing in
    let h = header_bytes c.args.header in
    let u = c.in_ok-unit.unit.now in
    let laws = g.met.B.Body.meant u in
    let m = meaning (g.B.Body.fields u) in
    let reads = variable_after _ g.met.B.Body.kinds h (Ok u) _ _ c.requires
    c.in_ok-unit.ensures.bytes in
    let smallest = laws.2 ∙ sym c.SMALLEST_VERSION.ensures in
    not_written what u (g.B.Body.fields u) (c.in_ok-unit.ensures.fields c.requires) laws.0 _ _
    (read_on payload_unit h (Ok u) before _ _ took reads.1.0) _
    (none_written (what.unit m) (sym (c.writes.ensures m smallest) ∙ c.if-not-writes.true))

pub returns-clause-bytes : goal.returns-clause-bytes
returns-clause-bytes g c is before took =
    let what = g.S.Writing.what c.args.writing in
    let h = header_bytes c.args.header in
    let u = c.in_ok-unit.unit.now in
    let laws = g.met.B.Body.meant u in
    let m = meaning (g.B.Body.fields u) in
    let reads = variable_after _ g.met.B.Body.kinds h (Ok u) _ _ c.requires
    c.in_ok-unit.ensures.bytes in
    let smallest = laws.2 ∙ sym c.SMALLEST_VERSION.ensures in
    let v = c.version.result in
    let some = one_written (what.unit m) (in_version v m)
    (sym (c.writes.ensures m smallest) ∙ c.if-not-writes.false)
    (λ n. c.version.ensures m n laws.1) in
    written what u (g.B.Body.fields u) (c.in_ok-unit.ensures.fields c.requires) laws.0 _ _
    (read_on payload_unit h (Ok u) before _ _ took reads.1.0) (in_version v m) some
    (c.form_parts.result.0 ++ c.form_parts.result.1.now) c.form_parts.ensures _ _
    c.in_ok-put_parts.ensures.bytes.0

pub returns-in_err-put_parts-clause-bytes : goal.returns-in_err-put_parts-clause-bytes
returns-in_err-put_parts-clause-bytes g c is before took =
    let p = err_from_is_err_and c.from_residual-in_err-put_parts.result
    c.from_residual-in_err-put_parts.ensures.1 in
    let what = g.S.Writing.what c.args.writing in
    let h = header_bytes c.args.header in
    let u = c.in_ok-unit.unit.now in
    let laws = g.met.B.Body.meant u in
    let m = meaning (g.B.Body.fields u) in
    let reads = variable_after _ g.met.B.Body.kinds h (Ok u) _ _ c.requires
    c.in_ok-unit.ensures.bytes in
    let smallest = laws.2 ∙ sym c.SMALLEST_VERSION.ensures in
    let v = c.version.result in
    let some = one_written (what.unit m) (in_version v m)
    (sym (c.writes.ensures m smallest) ∙ c.if-not-writes.false)
    (λ n. c.version.ensures m n laws.1) in
    rw (p.1, p.2)
    (partly_written what u (g.B.Body.fields u) (c.in_ok-unit.ensures.fields c.requires) laws.0 _ _
    (read_on payload_unit h (Ok u) before _ _ took reads.1.0) (in_version v m) some
    (c.form_parts.result.0 ++ c.form_parts.result.1.now) c.form_parts.ensures
    c.in_err-put_parts.field-0.0 _ _ c.in_err-put_parts.ensures.bytes.0)

-- ---- the counts of failures, and the errors

pub returns-then-not-writes-clause-reads : goal.returns-then-not-writes-clause-reads
returns-then-not-writes-clause-reads g c = c.in_ok-unit.ensures.bytes.1.1

pub returns-then-not-writes-clause-writes : goal.returns-then-not-writes-clause-writes
returns-then-not-writes-clause-writes g c = refl

pub returns-then-not-writes-clause-errors : goal.returns-then-not-writes-clause-errors
returns-then-not-writes-clause-errors g c = record { read_error = tt; write_error = tt }

pub returns-clause-reads : goal.returns-clause-reads
returns-clause-reads g c = c.in_ok-unit.ensures.bytes.1.1

pub returns-clause-writes : goal.returns-clause-writes
returns-clause-writes g c = c.in_ok-put_parts.ensures.bytes.1

pub returns-clause-errors : goal.returns-clause-errors
returns-clause-errors g c = record { read_error = tt; write_error = tt }

pub returns-in_err-unit-clause-reads : goal.returns-in_err-unit-clause-reads
returns-in_err-unit-clause-reads g c =
    let p = err_from_is_err_and c.from_residual.result c.from_residual.ensures.1 in
    rw (p.1, p.2) c.in_err-unit.ensures.bytes.1.1

pub returns-in_err-put_parts-clause-writes : goal.returns-in_err-put_parts-clause-writes
returns-in_err-put_parts-clause-writes g c =
    let p = err_from_is_err_and c.from_residual-in_err-put_parts.result
    c.from_residual-in_err-put_parts.ensures.1 in
    rw (p.1, p.2) c.in_err-put_parts.ensures.bytes.1
