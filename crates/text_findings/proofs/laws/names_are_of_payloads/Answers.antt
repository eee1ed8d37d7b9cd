use Rattle.text_findings.proofs.KeptNames.{unit_named}
use Rattle.text_findings.proofs.NamesApart.{names_alike}
use Rattle.text_findings.proofs.laws.names_are_of_payloads.Goals as goal

pub returns-clause-alike : goal.returns-clause-alike
returns-clause-alike c = names_alike

pub returns-clause-named : goal.returns-clause-named
returns-clause-named c = unit_named
