use Rattle.std.proofs.Common.{inl, inr, refl}
use Rattle.data_slices.proofs.applied.after_withdrawal.Goals as goal

pub returns-in-None : goal.returns-in-None
returns-in-None c = inr (inl (c.in-None.ensures.none refl))

pub returns-in-Less : goal.returns-in-Less
returns-in-Less c =
    inr (inr (
      c.in-Some.first,
      c.in-Some.left.now,
      c.in-Some.ensures.unit,
      λ e. cc,
    ))

pub returns-in-Greater : goal.returns-in-Greater
returns-in-Greater c =
    inr (inr (
      c.in-Some.first,
      c.in-Some.left.now,
      c.in-Some.ensures.unit,
      λ e. cc,
    ))
