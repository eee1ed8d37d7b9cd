use Rattle.std.proofs.Common.{refl}
use Rattle.validate_work.proofs.Summaries.{stops_summary}
use Rattle.validate_work.proofs.program.summarize.Goals as goal

pub returns-in-Err : goal.returns-in-Err
returns-in-Err g c =
    stops_summary g.F.Refusals.hears c.args.options c.args.lists c.in-Err.stop _ _ _ _ _ _
    c.in-Err.ensures refl
