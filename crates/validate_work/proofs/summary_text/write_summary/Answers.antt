use Rattle.std.proofs.Common.{ap, ◌∙◌, List, ℕ, ◌++◌}
use Rattle.validate_work.specs.SummaryTexts.{IsSummary}
use Rattle.validate_work.proofs.LinesSoFar.{puts_text}
use Rattle.validate_work.proofs.summary_text.write_summary.Goals as goal

pub returns-in-Ok : goal.returns-in-Ok
returns-in-Ok g c =
    let (text, is, made) = c.in-Ok.ensures in
    puts_text (IsSummary c.args.form c.args.compared c.args.summary.now) c.put.result _ _ text _ is
    (c.as_bytes.ensures ∙ made ∙ ap (λ (l : List ℕ). l ++ text) c.new-line.ensures)
    c.put.ensures.bytes
