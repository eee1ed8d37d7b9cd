use Rattle.list_lines.proofs.AnnouncedNames.{unknown_names, withdrawn_names}
use Rattle.list_lines.proofs.check.withdraw.Goals as goal

pub returns-in-Ok-clause-names : goal.returns-in-Ok-clause-names
returns-in-Ok-clause-names c = withdrawn_names _ _ _ c.parts-parts.ensures.ordered c.in-Ok.ensures

pub returns-in-Err-clause-names : goal.returns-in-Err-clause-names
returns-in-Err-clause-names c = unknown_names _ _ _ _ c.in-Err.ensures.0 c.in-Err.ensures.1
