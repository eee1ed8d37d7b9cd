use Rattle.data_memory.proofs.Sendable.{parts_sendable}
use Rattle.data_memory.proofs.data.Data.members_are_sendable.Goals as goal

pub returns : goal.returns
returns c =
    let i = c.self.inside in
    parts_sendable i.origins.keys i.router_keys.keys i.aspas.entries _ c.self.view_is
    c.parts-parts.ensures.fit c.origins_in_range.ensures c.keys_in_range.ensures
    c.aspas_in_range.ensures
