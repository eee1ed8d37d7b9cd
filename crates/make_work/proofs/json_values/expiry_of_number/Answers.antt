use Rattle.std.proofs.Common.{ap, sym, ◌∙◌}
use Rattle.make_work.specs.JsonValues.{expiry_by_number}
use Rattle.make_work.proofs.json_values.expiry_of_number.Goals as goal

pub returns-in-Some : goal.returns-in-Some
returns-in-Some c = ap expiry_by_number (sym c.in-Some.is ∙ c.long_number.ensures)

pub returns-in-None : goal.returns-in-None
returns-in-None c = ap expiry_by_number (sym c.in-None.is ∙ c.long_number.ensures)
