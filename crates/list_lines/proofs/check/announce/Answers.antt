use Rattle.list_lines.proofs.AnnouncedNames.{announced_names, duplicate_names}
use Rattle.list_lines.proofs.check.announce.Goals as goal

pub returns-in-Ok-clause-names : goal.returns-in-Ok-clause-names
returns-in-Ok-clause-names c = announced_names _ _ _ c.requires c.in-Ok.ensures

pub returns-in-Err-Duplicate-clause-names : goal.returns-in-Err-Duplicate-clause-names
returns-in-Err-Duplicate-clause-names c =
    let r = rw c.in-Err-Duplicate.field-0-is at c.in-Err-Duplicate.ensures in
    duplicate_names _ _ _ _ c.requires r.0 r.1
