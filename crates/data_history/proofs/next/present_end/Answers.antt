use Rattle.std.proofs.Common.{subst, sym}
use Rattle.rtr_units.specs.AnyEnd.{end_meaning}
use Rattle.data_slices.specs.Canonical.{HoldsData}
use Rattle.data_history.proofs.next.present_end.Goals as goal

pub returns-in-Ok-clause-holds : goal.returns-in-Ok-clause-holds
returns-in-Ok-clause-holds c =
    let p = c.in-Ok.ensures.«data» in (
      c.in-Some.ensures.is_there,
      p.0,
      subst (λ b. HoldsData b p.0 (end_meaning c.in-Ok.end)) c.in-Some.ensures.bytes p.1,
    )

pub returns-in-None-clause-finds : goal.returns-in-None-clause-finds
returns-in-None-clause-finds c = λ x ys h. c.in-None.ensures.finds h.first

pub returns-in-Err-clause-finds : goal.returns-in-Err-clause-finds
returns-in-Err-clause-finds c = λ x ys h.
    absurd (c.in-Err.ensures.flaw.none (
      x.payloads,
      x.end,
      subst (λ b. HoldsData b x.payloads x.end) (sym c.in-Some.ensures.bytes) h.holds,
    ))
