use Rattle.diff_work.proofs.UnitPieces.{units_delta}
use Rattle.diff_work.proofs.laws.units_are_deltas.Goals as goal

pub returns : goal.returns
returns c = units_delta
