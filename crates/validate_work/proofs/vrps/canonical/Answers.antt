use Rattle.std.proofs.Common.{rules}
use Rattle.validate_work.proofs.KeptData.{kept_written}
use Rattle.validate_work.proofs.vrps.canonical.Goals as goal

pub returns-in-Ok : goal.returns-in-Ok
returns-in-Ok c =
    kept_written c.args.payloads.now c.into_inner.result.items c.new-output.result.inner.items
    c.write_data.new.output.inner.items c.are_sendable.ensures.sendable
    c.are_sendable.ensures.ordered c.in-Ok.ensures.0 (search rules) (search rules)
