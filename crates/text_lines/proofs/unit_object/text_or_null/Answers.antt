use Rattle.std.proofs.Common.{rules}
use Rattle.text_lines.proofs.Laid.{lays_said}
use Rattle.text_lines.proofs.ReportPieces.{null_end_said, text_end_said}
use Rattle.text_lines.proofs.unit_object.text_or_null.Goals as goal

pub returns-in-Ok : goal.returns-in-Ok
returns-in-Ok c =
    lays_said _ _ _ _ _ _
    (text_end_said c.args.bytes.now c.in-Ok.shown.now c.as_bytes.result.now
    c.in-Ok.ensures.cases (search rules))
    c.string.ensures

pub returns-in-Err : goal.returns-in-Err
returns-in-Err c =
    lays_said _ _ _ _ _ _ (null_end_said c.args.bytes.now c.in-Err.ensures.cases.0)
    c.text.ensures
