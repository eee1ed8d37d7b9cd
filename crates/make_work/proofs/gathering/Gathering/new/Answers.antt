use Rattle.std.proofs.Common.{refl}
use Rattle.make_work.proofs.Takings.{nothing_taken}
use Rattle.make_work.proofs.gathering.Gathering.new.Goals as goal

pub returns-clause-none : goal.returns-clause-none
returns-clause-none c = nothing_taken _ _ c.new.ensures c.new-2.ensures refl
