use Rattle.make_work.proofs.JsonReading.{begins, nothing_begins}
use Rattle.make_work.proofs.json_items.begins_object.Goals as goal

pub returns-in-Some : goal.returns-in-Some
returns-in-Some c = begins _ _ _ _ c.in-Some.ensures.value c.is_begin_object.ensures

pub returns-in-None : goal.returns-in-None
returns-in-None c = nothing_begins _ c.in-None.ensures.value.0
