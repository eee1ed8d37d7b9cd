use Rattle.unit_any.proofs.Agreement.{same_views, same_faults}
use Rattle.unit_any.proofs.laws.same_as_unit_views.Goals as goal

pub returns : goal.returns
returns c = record { view = same_views; fault = same_faults }
