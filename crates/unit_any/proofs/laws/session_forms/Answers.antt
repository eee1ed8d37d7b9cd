use Rattle.unit_any.proofs.Forms.{form_unit, form_most, form_shown, form_again}
use Rattle.unit_any.proofs.laws.session_forms.Goals as goal

pub returns : goal.returns
returns c = record { unit = form_unit; most = form_most; shown = form_shown; again = form_again }
