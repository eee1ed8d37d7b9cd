use Rattle.std.proofs.Common.{is_ok, ◌∙◌}
use Rattle.validate_work.proofs.Summaries.{quiet_asked}
use Rattle.validate_work.proofs.program.answer.Goals as goal

pub returns-clause-quiet : goal.returns-clause-quiet
returns-clause-quiet g c = λ e.
    c.tell.ensures.quiet e
    ∙ quiet_asked g.F.Refusals.hears c.args.options c.args.lists _ _ _ _ _ _ c.args.route
    c.answer_asked-answer.result (is_ok c.flush-flushed.result) c.tell.result
    c.answer_asked-answer.ensures c.tell.ensures.status e
