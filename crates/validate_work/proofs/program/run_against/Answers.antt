use Rattle.std.proofs.Common.{refl}
use Rattle.validate_work.proofs.Running.{first_refused, runs_both, second_refused}
use Rattle.validate_work.proofs.program.run_against.Goals as goal

pub returns-in-Err-read_list : goal.returns-in-Err-read_list
returns-in-Err-read_list g c =
    second_refused g.F.Refusals.hears c.args.now c.args.slurm.now.entries.items
    c.args.request.options c.time_of-at.result c.time_of-at.ensures _ _ _ _ _ _ _ _ _
    _ _ _ _ _ _ c.in-Ok.ensures c.in-Err-read_list.ensures refl refl

pub returns : goal.returns
returns g c =
    runs_both g.F.Refusals.hears c.args.now c.args.slurm.now.entries.items
    c.args.request.options c.time_of-at.result c.time_of-at.ensures _ _ _ _ _ _ _ _ _
    _ _ _ _ _ _ _ c.in-Ok.ensures c.in-Ok-read_list.ensures refl
    c.answer.ensures.answers c.answer.ensures.quiet
