use Rattle.std.proofs.Common.{◌≡◌, ◌↔◌, ◌∙◌, IsSome, IsTrue, true, false, refl, sym, subst}
use Rattle.rtr_units.specs.AnyEnd.{end_meaning}
use Rattle.data_history.proofs.Steps.{here, next_snapshot, no_flaw, unknown}
use Rattle.data_history.proofs.known.leads_back.Goals as goal

pub returns-then-serial-wanted : goal.returns-then-serial-wanted
returns-then-serial-wanted c = λ x ys present back.
    let l = c.steps in
    let t = l.invariant x ys present back in
    subst (λ o. IsTrue true ↔ IsSome o)
    (sym (t.same ∙ here c.args.wanted t.y t.zs (t.number ∙ c.if-serial-wanted.true)))
    (λ h. refl, λ h. refl)

pub returns-in-None : goal.returns-in-None
returns-in-None c = λ x ys present back.
    let l = c.steps in
    let t = l.invariant x ys present back in
    subst (λ o. IsTrue false ↔ IsSome o)
    (sym (t.same ∙ unknown l.rest.now c.args.wanted t.y t.zs
    (λ e. c.if-serial-wanted.false (sym t.number ∙ e))
    (λ part. let k : false ≡ true = c.in-None.ensures.finds part in absurd cc) t.more))
    (λ h. h, λ h. h)

pub returns-in-Err : goal.returns-in-Err
returns-in-Err c = λ x ys present back.
    let l = c.steps in
    let t = l.invariant x ys present back in
    absurd (no_flaw l.rest.now c.in-Some.part.1.now c.in-Err.field-0 t.y t.zs
    c.in-Some.ensures.is_there c.in-Some.ensures.bytes c.in-Err.ensures.flaw t.more)

pub steps-init : goal.steps-init
steps-init c = λ x ys present back.
    record { y = x; zs = ys; same = refl; number = present; more = back }

pub steps-preserved : goal.steps-preserved
steps-preserved c = λ x ys present back.
    let l = c.steps in
    let t = l.invariant x ys present back in
    let j = c.in-Ok.ensures.changes in
    let f = next_snapshot l.rest.now c.in-Some.part.1.now c.in-Some.part.2.now c.args.wanted
    (end_meaning c.in-Ok.end) j.0 t.y t.zs c.in-Some.ensures.is_there c.in-Some.ensures.bytes
    c.in-Some.ensures.rest j.1 (λ e. c.if-serial-wanted.false (sym t.number ∙ e)) t.more in
    record {
      y = f.y;
      zs = f.zs;
      same = t.same ∙ f.same;
      number = f.number ∙ sym c.serial.ensures;
      more = f.more;
    }
