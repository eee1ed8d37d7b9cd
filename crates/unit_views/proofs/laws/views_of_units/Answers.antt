use Rattle.unit_views.proofs.Agreement.{view_means, view_meant, form_meant, form_end}
use Rattle.unit_views.proofs.laws.views_of_units.Goals as goal

pub returns : goal.returns
returns c = record { means = view_means; meant = view_meant; form = form_meant; end = form_end }
