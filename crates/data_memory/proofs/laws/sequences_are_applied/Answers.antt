use Rattle.data_memory.proofs.Outcomes.{applied, leads}
use Rattle.data_memory.proofs.laws.sequences_are_applied.Goals as goal

pub returns-clause-leads : goal.returns-clause-leads
returns-clause-leads c = λ limit input b e result old new before after this p is a blames.
    leads limit input b e old new before after this is a result p blames

pub returns-clause-only : goal.returns-clause-only
returns-clause-only c = λ limit input d old new before after p is.
    applied limit input d old new before after is p
