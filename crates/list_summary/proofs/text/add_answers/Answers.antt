use Rattle.std.proofs.Common.{◌≡◌, ◌++◌, List, OnOk, ℕ, subst}
use Rattle.list_summary.proofs.AnswerLines.{lines_kept}
use Rattle.list_summary.proofs.text.add_answers.Goals as goal

pub returns-else-is_empty-clause-lines : goal.returns-else-is_empty-clause-lines
returns-else-is_empty-clause-lines c =
    subst
    (λ (l : List ℕ). OnOk c.add_ended.result (c.add_ended.new.line ≡ c.args.line.now ++ l))
    (lines_kept c.in_ok-ended.ended.now c.args.answers.now.ended.items c.is_empty.result
    c.is_empty.ensures c.if-is_empty.false c.in_ok-ended.ensures.rows)
    c.add_ended.ensures
