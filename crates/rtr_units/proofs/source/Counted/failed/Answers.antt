use Rattle.std.proofs.Common.{◌∙◌, false, Some}
use Rattle.rtr_units.specs.StopCauses.{count_after}
use Rattle.rtr_units.proofs.source.Counted.failed.Goals as goal

pub returns-clause-count : goal.returns-clause-count
returns-clause-count g c =
    c.fail.ensures
    ∙ (λ i. record {
      inner = c.args.self.now.inner;
      failed = count_after c.args.self.now.failed false;
      last = Some (c.kind.ensures i);
    })
