use Rattle.unit_any.proofs.Viewed.{header_named}
use Rattle.unit_any.proofs.session_view.whole.Goals as goal

pub returns-in-Err-clause-fault : goal.returns-in-Err-clause-fault
returns-in-Err-clause-fault c =
    header_named c.args.input.now c.in-Err.fault c.in-Err.ensures.0 c.in-Err.ensures.1
