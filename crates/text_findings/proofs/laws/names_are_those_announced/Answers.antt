use Rattle.text_findings.proofs.KeptNames.{names_kept, names_said}
use Rattle.text_findings.proofs.laws.names_are_those_announced.Goals as goal

pub returns-clause-kept : goal.returns-clause-kept
returns-clause-kept c = names_kept

pub returns-clause-said : goal.returns-clause-said
returns-clause-said c = names_said
