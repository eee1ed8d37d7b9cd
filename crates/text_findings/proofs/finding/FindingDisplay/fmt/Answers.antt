use Rattle.std.proofs.Common.{rules, ap, sym}
use Rattle.std.proofs.Output.{has_written_of_eq}
use Rattle.text_findings.specs.FindingTexts.{finding_text}
use Rattle.text_findings.proofs.finding.FindingDisplay.fmt.Goals as goal

pub returns-in-Version-clause-writes : goal.returns-in-Version-clause-writes
returns-in-Version-clause-writes g c = λ plain ok.
    has_written_of_eq _ _ _ _ _ (ap finding_text (sym c.in-Version.is)) (search rules)
