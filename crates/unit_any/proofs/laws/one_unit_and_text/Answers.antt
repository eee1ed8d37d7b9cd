use Rattle.unit_any.proofs.Parts.{parts_one}
use Rattle.unit_any.proofs.laws.one_unit_and_text.Goals as goal

pub returns : goal.returns
returns c u p t q s is = parts_one u is p t q s
