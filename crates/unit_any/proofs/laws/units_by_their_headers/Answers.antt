use Rattle.unit_any.proofs.Wholes.{any_whole, whole_any}
use Rattle.unit_any.proofs.laws.units_by_their_headers.Goals as goal

pub returns : goal.returns
returns c = record { whole = any_whole; unit = whole_any }
