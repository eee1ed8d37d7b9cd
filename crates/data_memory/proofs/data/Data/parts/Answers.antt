use Rattle.std.proofs.Common.{subst}
use Rattle.data_memory.specs.Data.{IsData}
use Rattle.data_memory.proofs.Parts.{joined_data}
use Rattle.data_memory.proofs.data.Data.parts.Goals as goal

pub returns-clause-ordered : goal.returns-clause-ordered
returns-clause-ordered c =
    let i = c.self.inside in
    subst (λ d. IsData d) c.self.view_is
    (joined_data i.origins.keys i.router_keys.keys i.aspas.entries c.iter.ensures.ordered
    c.iter-2.ensures.ordered c.iter-3.ensures.ordered)
