use Rattle.data_memory.proofs.Accepted.{all_read_back, delta_read_back}
use Rattle.data_memory.proofs.laws.deltas_read_back.Goals as goal

pub returns-clause-delta : goal.returns-clause-delta
returns-clause-delta c = delta_read_back

pub returns-clause-all : goal.returns-clause-all
returns-clause-all c = all_read_back
