use Rattle.std.proofs.Common.{◌++◌, List, ap, sym, ◌∙◌, take, get_or}
use Rattle.std.specs.List.{flat_map}
use Rattle.std.proofs.lemmas.List.{flat_map_more, take_more}
use Rattle.list_summary.specs.PrivateTallies.{kept_line}
use Rattle.list_summary.specs.declared.answers.Answer.{Answer}
use Rattle.list_summary.proofs.text.add_ended.Goals as goal

pub loop-answer-preserved : goal.loop-answer-preserved
loop-answer-preserved c =
    let answers : List Answer = c.args.answers.now in
    let none : Answer = record { session = 0; serial = 0; announced = 0; withdrawn = 0 } in
    let answer : Answer = get_or answers c.loop-answer.answer-index none in
    c.in_ok-add_answer.ensures
    ∙ ap (λ l. l ++ kept_line answer) c.loop-answer.invariant
    ∙ flat_map_more kept_line c.args.line.now (take c.loop-answer.answer-index answers) answer
    ∙ ap (λ (l : List Answer). c.args.line.now ++ flat_map kept_line l)
    (sym (take_more answers c.loop-answer.answer-index none c.loop-answer-test.true))
