use Rattle.data_memory.proofs.Accepted.{all_sequence, delta_sequence}
use Rattle.data_memory.proofs.laws.deltas_are_accepted.Goals as goal

pub returns-clause-delta : goal.returns-clause-delta
returns-clause-delta c = λ v old new e byte h k j. delta_sequence v byte old new e h k j

pub returns-clause-all : goal.returns-clause-all
returns-clause-all c = λ v d e byte h j. all_sequence v byte d e h j
