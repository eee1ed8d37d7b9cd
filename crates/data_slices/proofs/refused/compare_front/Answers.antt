use Rattle.std.proofs.Common.{inl, refl}
use Rattle.data_slices.proofs.refused.compare_front.Goals as goal

pub returns-in-None-clause-order : goal.returns-in-None-clause-order
returns-in-None-clause-order c = inl (c.in-None.ensures.none refl, refl)
