use Rattle.text_lines.specs.ListedUnits.{fields_listed}
use Rattle.text_findings.proofs.Steps.{goes_on}
use Rattle.text_findings.proofs.sequence.SequenceState.after.Goals as goal

pub returns : goal.returns
returns c = goes_on c.args.self.now _ (fields_listed c.args.unit.now) c.next.ensures
