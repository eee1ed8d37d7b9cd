use Rattle.std.proofs.Common.{◌++◌, Ok, Err}
use Rattle.program_frame.proofs.Between.{first_not_written, then_written}
use Rattle.program_frame.proofs.painted.write_between.Goals as goal

pub returns-in-Err : goal.returns-in-Err
returns-in-Err g c =
    first_not_written g.W.Sink c.in-Err.error c.args.output.now c.write_all.new.writer
    (c.args.before.now ++ c.args.text.now) c.args.after.now
    (first_not_written g.W.Sink c.in-Err.error c.args.output.now c.write_all.new.writer
    c.args.before.now c.args.text.now c.in-Err.ensures)

pub returns-in-Err-write_all : goal.returns-in-Err-write_all
returns-in-Err-write_all g c =
    let e = c.in-Err-write_all.error in
    first_not_written g.W.Sink e c.args.output.now c.write_all-2.new.writer
    (c.args.before.now ++ c.args.text.now) c.args.after.now
    (then_written g.W.Sink c.in-Ok.field-0 (Err e) c.args.output.now c.write_all.new.writer
    c.write_all-2.new.writer c.args.before.now c.args.text.now c.in-Ok.ensures
    c.in-Err-write_all.ensures)

pub returns : goal.returns
returns g c =
    let x = c.in-Ok-write_all.field-0 in
    then_written g.W.Sink x c.write_all-3.result c.args.output.now c.write_all-2.new.writer
    c.write_all-3.new.writer (c.args.before.now ++ c.args.text.now) c.args.after.now
    (then_written g.W.Sink c.in-Ok.field-0 (Ok x) c.args.output.now c.write_all.new.writer
    c.write_all-2.new.writer c.args.before.now c.args.text.now c.in-Ok.ensures
    c.in-Ok-write_all.ensures)
    c.write_all-3.ensures
