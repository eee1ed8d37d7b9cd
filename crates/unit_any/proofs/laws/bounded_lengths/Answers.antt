use Rattle.unit_any.proofs.Lengths.{said_bounded}
use Rattle.unit_any.proofs.laws.bounded_lengths.Goals as goal

pub returns : goal.returns
returns c = said_bounded
