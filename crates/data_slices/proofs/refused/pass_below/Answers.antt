use Rattle.std.proofs.Common.{refl}
use Rattle.std.specs.declared.cmp.Ordering.TheVariants.{Greater}
use Rattle.data_slices.specs.Items.{meant}
use Rattle.data_slices.proofs.Seeking.{passes, starts}
use Rattle.data_slices.proofs.refused.pass_below.Goals as goal

pub units-init : goal.units-init
units-init c = starts (meant c.args.first.now).payload c.args.those.now

pub units-preserved : goal.units-preserved
units-preserved c =
    passes c.args.first.now c.args.those.now c.units.rest.now c.units.invariant c.in-Some.left.now
    Greater c.in-Some.ensures.below refl
