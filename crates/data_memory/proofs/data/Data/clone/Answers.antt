use Rattle.data_memory.proofs.Applied.{copied}
use Rattle.data_memory.proofs.data.Data.clone.Goals as goal

pub returns : goal.returns
returns c =
    let i = c.self.inside in
    copied i.origins.keys i.router_keys.keys i.aspas.entries _ _ _ _ _ c.parts-parts.ensures.ordered
    c.self.view_is c.new-copy.ensures c.in_ok-add_origins.ensures c.in_ok-add_keys.ensures
    c.in_ok-add_aspas.ensures
