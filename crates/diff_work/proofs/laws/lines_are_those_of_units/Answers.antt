use Rattle.diff_work.proofs.OfUnits.{json_of, text_of}
use Rattle.diff_work.proofs.laws.lines_are_those_of_units.Goals as goal

pub returns-clause-text : goal.returns-clause-text
returns-clause-text c = text_of

pub returns-clause-json : goal.returns-clause-json
returns-clause-json c = json_of
