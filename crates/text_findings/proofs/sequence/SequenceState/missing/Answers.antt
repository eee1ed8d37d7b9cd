use Rattle.std.proofs.Common.{ap, ◌∙◌}
use Rattle.text_findings.specs.Rules.{missing_at}
use Rattle.text_findings.proofs.sequence.SequenceState.missing.Goals as goal

pub returns : goal.returns
returns c = λ history known. c.missing.ensures ∙ ap (λ s. missing_at s.stage) known
