use Rattle.std.proofs.Common.{inl, refl}
use Rattle.data_slices.proofs.made.after_name.Goals as goal

pub returns-in-None : goal.returns-in-None
returns-in-None c = inl (c.in-None.ensures.none refl, refl)
