use Rattle.std.proofs.Common.{[], Err, Ok, refl}
use Rattle.make_work.proofs.Takings.{for_after}
use Rattle.validate_work.proofs.Exceptions.{by_slurm}
use Rattle.validate_work.proofs.file.load_json.Goals as goal

pub returns-in-Ok : goal.returns-in-Ok
returns-in-Ok c =
    let some = c.in-Ok.ensures in
    let start = c.gathering_at-gathering.ensures in (
      Ok some.items,
      some.are,
      by_slurm _ _ _ _ c.args.at some.items _ start.filtered some.taken.kept.slurm
          (c.load_asserted.ensures c.args.at _ (some.taken.kept.taken [] start.none)
          (for_after _ _ _ _ _ start.settings some.taken.kept.settings)),
    )

pub returns : goal.returns
returns c = (Err c.in-Err.refusal, c.in-Err.ensures, refl)
