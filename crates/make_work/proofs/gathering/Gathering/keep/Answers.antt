use Rattle.std.proofs.Common.{subst}
use Rattle.make_work.specs.PrivateExpiring.{LooksAtTime}
use Rattle.make_work.proofs.Takings.{took}
use Rattle.make_work.proofs.gathering.Gathering.keep.Goals as goal

pub returns-in-Ok-true : goal.returns-in-Ok-true
returns-in-Ok-true c =
    let old = c.args.self.now in
    took c.gather.result c.args.item old c.gather.new.self c.look.new.self
    (subst (λ b. LooksAtTime c.args.item b old.times c.look.new.self) c.in-Ok-true.field-0-test
    c.in-Ok-true.ensures) c.gather.ensures
