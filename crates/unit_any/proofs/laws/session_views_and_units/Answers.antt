use Rattle.unit_any.specs.AnyUnits.{any_bytes, any_fields}
use Rattle.unit_any.proofs.Agreement.{shows_fields}
use Rattle.unit_any.proofs.laws.session_views_and_units.Goals as goal

pub returns : goal.returns
returns c = λ v u shows has. shows_fields v (any_bytes u) (any_fields u) shows has
