use Rattle.text_lines.specs.ListedUnits.{fields_listed}
use Rattle.text_findings.proofs.Steps.{checks}
use Rattle.text_findings.proofs.sequence.SequenceState.check.Goals as goal

pub returns : goal.returns
returns c =
    checks c.args.self.now c.args.was_there (fields_listed c.args.unit.now) _ c.found.ensures
