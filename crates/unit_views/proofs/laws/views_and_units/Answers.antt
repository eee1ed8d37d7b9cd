use Rattle.rtr_payload.specs.UnitBytes.{unit_bytes, unit_fields}
use Rattle.unit_views.proofs.Agreement.{view_and_fields}
use Rattle.unit_views.proofs.laws.views_and_units.Goals as goal

pub returns : goal.returns
returns c = λ v u is shape. view_and_fields v (unit_bytes u) (unit_fields u) is shape
