use Rattle.unit_any.proofs.Forms.{form_by_fields}
use Rattle.unit_any.proofs.laws.forms_of_session_views.Goals as goal

pub returns : goal.returns
returns c = form_by_fields
