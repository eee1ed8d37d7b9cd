use Rattle.std.proofs.Common.{refl, subst, sym}
use Rattle.data_slices.specs.Canonical.{HoldsData}
use Rattle.data_history.proofs.Parts.{bytes_at, size_at}
use Rattle.data_history.proofs.part.data_at.Goals as goal

pub returns-in-Some-clause-holds : goal.returns-in-Some-clause-holds
returns-in-Some-clause-holds c = λ x ys h.
    subst (λ b. HoldsData b x.payloads x.end)
    (sym (bytes_at c.args.history.now c.in-Some.part.1.now c.in-Some.ensures.is_there
    c.in-Some.ensures.bytes))
    h.holds

pub returns-in-Some-clause-at : goal.returns-in-Some-clause-at
returns-in-Some-clause-at c = (
  c.in-Some.ensures.is_there,
  refl,
  size_at c.args.history.now c.in-Some.part.1.now c.in-Some.ensures.is_there
      c.in-Some.ensures.bytes,
)

pub returns-in-None-clause-finds : goal.returns-in-None-clause-finds
returns-in-None-clause-finds c = λ part. c.in-None.ensures.finds part
