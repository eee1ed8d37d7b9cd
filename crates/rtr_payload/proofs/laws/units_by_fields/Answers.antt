use Rattle.rtr_payload.proofs.ByFields.{unit_fields_of, unit_of_fields, form_is}
use Rattle.rtr_payload.proofs.laws.units_by_fields.Goals as goal

pub returns-clause-units : goal.returns-clause-units
returns-clause-units c = λ b m. (unit_fields_of b m, unit_of_fields b m)

pub returns-clause-forms : goal.returns-clause-forms
returns-clause-forms c = form_is
