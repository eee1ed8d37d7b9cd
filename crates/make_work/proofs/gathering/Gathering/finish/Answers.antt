use Rattle.make_work.proofs.Takings.{finished}
use Rattle.make_work.proofs.gathering.Gathering.finish.Goals as goal

pub returns-in-Ok : goal.returns-in-Ok
returns-in-Ok c = finished c.args.self _ _ c.in-Ok.ensures c.all_gathered.ensures
