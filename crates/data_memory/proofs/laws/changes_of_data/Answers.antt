use Rattle.data_memory.proofs.Delta.{leads_to_new}
use Rattle.data_memory.proofs.laws.changes_of_data.Goals as goal

pub returns : goal.returns
returns c = leads_to_new _ _ c.parts-old.ensures.ordered c.parts-new.ensures.ordered
