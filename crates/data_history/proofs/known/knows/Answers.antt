use Rattle.std.proofs.Common.{◌≡◌, false, true, ap, sym, subst, ◌∙◌}
use Rattle.rtr_units.specs.AnyEnd.{end_meaning}
use Rattle.rtr_units.specs.End.{EndMeaning}
use Rattle.data_slices.specs.Canonical.{HoldsData}
use Rattle.data_slices.proofs.OneData.{one_data}
use Rattle.data_history.specs.Snapshots.{GoesBack}
use Rattle.data_history.proofs.known.knows.Goals as goal

pub returns-in-None : goal.returns-in-None
returns-in-None c = λ x ys h.
    let k : false ≡ true = c.in-None.ensures.finds h.first in absurd cc

pub returns-in-Err : goal.returns-in-Err
returns-in-Err c = λ x ys h. absurd (c.in-Err.ensures.flaw.none (
  x.payloads,
  x.end,
  subst (λ b. HoldsData b x.payloads x.end) (sym c.in-Some.ensures.bytes) h.holds,
))

pub returns-in-Ok : goal.returns-in-Ok
returns-in-Ok c = λ x ys h.
    let p = c.in-Ok.ensures.«data» in
    c.leads_back.ensures x ys
    (ap (λ (e : EndMeaning). e.serial)
    (one_data c.in-Some.part.1.now x.payloads p.0 x.end (end_meaning c.in-Ok.end)
    (subst (λ b. HoldsData b x.payloads x.end) (sym c.in-Some.ensures.bytes) h.holds) p.1).1
    ∙ sym c.serial.ensures)
    (subst (λ r. GoesBack r x ys) (sym c.in-Some.ensures.rest) h.back)
