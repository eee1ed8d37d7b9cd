use Rattle.validate_work.proofs.LinesSoFar.{stops_in_answer}
use Rattle.validate_work.proofs.lines.answer_line.Goals as goal

pub returns-in-Err-answer_route : goal.returns-in-Err-answer_route
returns-in-Err-answer_route g c =
    let read = rw c.in-Ok-Some.field-0-is at c.in-Ok-Some.ensures in
    stops_in_answer c.args.formats c.args.lists c.args.number c.args.text.now
    c.in-Ok-Some.route c.in-Err-answer_route.fault _ _ read c.in-Err-answer_route.ensures
