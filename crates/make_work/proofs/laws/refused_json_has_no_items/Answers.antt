use Rattle.make_work.proofs.Excluded.{excluded}
use Rattle.make_work.proofs.laws.refused_json_has_no_items.Goals as goal

pub returns : goal.returns
returns c = excluded
