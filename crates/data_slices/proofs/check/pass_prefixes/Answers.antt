use Rattle.std.proofs.Common.{◌++◌}
use Rattle.data_slices.specs.declared.item.PayloadView.TheVariants as kinds
use Rattle.data_slices.proofs.Passing.{runs_join}
use Rattle.data_slices.proofs.check.pass_prefixes.Goals as goal

pub returns-in-Origin-clause-passed : goal.returns-in-Origin-clause-passed
returns-in-Origin-clause-passed c =
    let first = c.pass_following-v4 in
    let then = c.pass_following-v6 in
    rw c.in-Origin.is (
      first.ensures.passed.0 ++ then.ensures.passed.0,
      runs_join first.ensures.passed.0 then.ensures.passed.0 (kinds.Origin c.in-Origin.origin)
          c.args.left.now (kinds.Origin first.result.0) first.result.1.now
          (kinds.Origin then.result.0) then.result.1.now first.ensures.passed.1
          then.ensures.passed.1,
    )
