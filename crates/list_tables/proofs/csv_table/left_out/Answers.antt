use Rattle.std.proofs.Common.{◌∙◌}
use Rattle.list_tables.proofs.Counts.{aspas_counted, keys_counted}
use Rattle.list_tables.proofs.csv_table.left_out.Goals as goal

pub returns-clause-router_keys : goal.returns-clause-router_keys
returns-clause-router_keys c =
    let parts = c.parts-origins.result in
    c.len.ensures.value
    ∙ keys_counted parts.0 parts.1 parts.2 _ c.parts-origins.ensures.payloads

pub returns-clause-aspas : goal.returns-clause-aspas
returns-clause-aspas c =
    let parts = c.parts-origins.result in
    c.len-2.ensures.value
    ∙ aspas_counted parts.0 parts.1 parts.2 _ c.parts-origins.ensures.payloads
