use Rattle.std.proofs.Common.{[], Err, Ok, refl}
use Rattle.make_work.proofs.Takings.{for_after}
use Rattle.make_work.proofs.BySlurm.{by_slurm}
use Rattle.make_work.proofs.make.make_of_csv.Goals as goal

pub returns-in-Ok : goal.returns-in-Ok
returns-in-Ok g c =
    let some = c.in-Ok.ensures.items in
    let start = c.gathering_for-gathering.ensures in (
      Ok some.items,
      some.are,
      by_slurm _ _ _ c.args.asked.now c.args.now some.items
          _ _ _ _ _ start.filtered some.taken.kept.slurm
          (c.make_of_asserted.ensures c.args.now _ (some.taken.kept.taken [] start.none)
          (for_after _ _ _ _ _ start.settings some.taken.kept.settings)),
    )

pub returns-in-Err : goal.returns-in-Err
returns-in-Err g c =
    (Err c.in-Err.refusal, c.in-Err.ensures.refused, (refl, c.tell_refusal.ensures))
