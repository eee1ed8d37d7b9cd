use Rattle.std.proofs.Common.{refl}
use Rattle.validate_work.proofs.Running.{reads_none, runs_one}
use Rattle.validate_work.proofs.program.run.Goals as goal

pub returns-in-Err-read_list : goal.returns-in-Err-read_list
returns-in-Err-read_list g c =
    reads_none g.F.Refusals.hears c.args.now c.args.slurm.now.entries.items
    c.args.request.options c.time_of-at.result c.time_of-at.ensures _ _ _ _ _ _ _ _ _
    c.args.request.route c.in-Ok.route _ _ c.in-Ok.ensures c.in-Err-read_list.ensures refl refl

pub returns : goal.returns
returns g c =
    runs_one g.F.Refusals.hears c.args.now c.args.slurm.now.entries.items
    c.args.request.options c.time_of-at.result c.time_of-at.ensures _ _ _ _ _ _ _ _ _
    c.args.request.route c.in-Ok.route _ _ _ c.in-Ok.ensures c.in-Ok-read_list.ensures refl
    c.answer.ensures.answers c.answer.ensures.quiet
