use Rattle.std.proofs.Common.{inl, refl}
use Rattle.data_slices.proofs.made.next_below.Goals as goal

pub returns-in-None-clause-none : goal.returns-in-None-clause-none
returns-in-None-clause-none c = λ none. inl (c.in-None.ensures.none refl)
