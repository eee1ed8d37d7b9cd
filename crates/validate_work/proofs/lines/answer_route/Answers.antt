use Rattle.std.proofs.Common.{ap, ◌∙◌, List, ℕ, ◌++◌}
use Rattle.validate_work.proofs.LinesSoFar.{puts_answer}
use Rattle.validate_work.proofs.lines.answer_route.Goals as goal

pub returns-in-Ok : goal.returns-in-Ok
returns-in-Ok g c =
    let (text, is, made) = c.in-Ok.ensures in
    puts_answer c.args.form c.args.lists _ _ c.put.result _ _ text _ is
    (c.as_bytes.ensures ∙ made ∙ ap (λ (l : List ℕ). l ++ text) c.clear.ensures) c.put.ensures.bytes
