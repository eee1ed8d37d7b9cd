use Rattle.std.proofs.Common.{sym}
use Rattle.data_memory.proofs.Sendable.{parts_sendable}
use Rattle.validate_work.proofs.ranges.are_sendable.Goals as goal

pub returns-clause-sendable : goal.returns-clause-sendable
returns-clause-sendable c =
    let parts = c.parts-origins.result in
    parts_sendable parts.0 parts.1 parts.2 c.args.payloads.now
    (sym c.parts-origins.ensures.payloads) c.parts-origins.ensures.fit c.origins_in_range.ensures
    c.keys_in_range.ensures c.aspas_in_range.ensures
