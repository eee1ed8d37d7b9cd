use Rattle.std.proofs.Common.{ℕ}
use Rattle.std.proofs.lemmas.List.{get_or-replicate, length-replicate}
use Rattle.list_summary.proofs.tally.Tally.new.Goals as goal

pub returns-clause-long : goal.returns-clause-long
returns-clause-long c = length-replicate {A = ℕ} 256 0

pub returns-clause-each : goal.returns-clause-each
returns-clause-each c = λ k below. get_or-replicate {A = ℕ} 256 k 0 0 below
