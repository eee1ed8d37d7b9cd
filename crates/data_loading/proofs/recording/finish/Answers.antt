use Rattle.data_loading.proofs.Settling.{loads}
use Rattle.data_loading.proofs.recording.finish.Goals as goal

pub returns-in-None-Some-clause-loads : goal.returns-in-None-Some-clause-loads
returns-in-None-Some-clause-loads c = λ room.
    loads c.args.held.now c.args.input.now c.args.index.now c.args.output.now c.requires
    c.in-None-Some.end c.in-None-Some.is-0 c.in-None-Some.is-1
