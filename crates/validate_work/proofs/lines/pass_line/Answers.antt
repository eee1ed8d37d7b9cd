use Rattle.validate_work.proofs.LinesSoFar.{tells_line}
use Rattle.validate_work.proofs.lines.pass_line.Goals as goal

pub returns-in-Err-Line-clause-passes : goal.returns-in-Err-Line-clause-passes
returns-in-Err-Line-clause-passes g c =
    let refused = rw c.in-Err-Line.field-0-is at c.in-Err-Line.ensures in
    tells_line g.T.Refusals.hears c.args.strict c.args.formats c.args.lists c.args.number
    c.args.text.now c.in-Err-Line.number c.in-Err-Line.error _ _ _ _ c.if-not-strict.true refused
    c.tell.ensures
