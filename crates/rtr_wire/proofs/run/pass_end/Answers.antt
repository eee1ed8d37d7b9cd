use Rattle.std.proofs.lemmas.Result.{err_from_is_err_and}
use Rattle.std.proofs.Common.{Ok, Err}
use Rattle.rtr_units.specs.StopCauses.{cause_of}
use Rattle.rtr_units.specs.AnyEnd.{end_bytes}
use Rattle.rtr_units.specs.HeaderBytes.{header_bytes}
use Rattle.rtr_units.proofs.UnitsRead.{read_on}
use Rattle.rtr_payload.specs.UnitKinds.{payload_unit}
use Rattle.rtr_payload.proofs.Reading.{end_after}
use Rattle.rtr_wire.proofs.Units.{not_read_after, end_written, end_not_written}
use Rattle.rtr_wire.proofs.run.pass_end.Goals as goal

pub returns-in_err-end-clause-bytes : goal.returns-in_err-end-clause-bytes
returns-in_err-end-clause-bytes g c is before took =
    let p = err_from_is_err_and c.from_residual.result c.from_residual.ensures.1 in
    let e = c.in_err-end.field-0.0 in
    let h = header_bytes c.args.header in
    let reads = end_after h (Err (cause_of e)) _ _ c.requires c.in_err-end.ensures.bytes in
    rw (p.1, p.2)
    (not_read_after (g.S.Writing.what c.args.writing) e h before _ _ _ took reads.1.0)

-- the end of data was read, for which another is written
pub returns-clause-bytes : goal.returns-clause-bytes
returns-clause-bytes g c is before took =
    let h = header_bytes c.args.header in
    let d = c.in_ok-end.end in
    let reads = end_after h (Ok (end_bytes d)) _ _ c.requires c.in_ok-end.ensures.bytes in
    end_written (g.S.Writing.what c.args.writing) d c.end.result c.end.ensures _ _ _ _
    (read_on payload_unit h (Ok (end_bytes d)) before _ _ took reads.1.0)
    (c.in_ok-end.ensures.end c.requires) c.in_ok-write.ensures.bytes.0

pub returns-in_err-write-clause-bytes : goal.returns-in_err-write-clause-bytes
returns-in_err-write-clause-bytes g c is before took =
    let p = err_from_is_err_and c.from_residual-in_err-write.result
    c.from_residual-in_err-write.ensures.1 in
    let h = header_bytes c.args.header in
    let d = c.in_ok-end.end in
    let reads = end_after h (Ok (end_bytes d)) _ _ c.requires c.in_ok-end.ensures.bytes in
    rw (p.1, p.2)
    (end_not_written (g.S.Writing.what c.args.writing) d c.end.result c.end.ensures
    c.in_err-write.field-0.0 _ _ _ _
    (read_on payload_unit h (Ok (end_bytes d)) before _ _ took reads.1.0)
    (c.in_ok-end.ensures.end c.requires) c.in_err-write.ensures.bytes.0)
