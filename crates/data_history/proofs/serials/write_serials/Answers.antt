use Rattle.std.proofs.Common.{◌≡◌, ◌+◌, ◌∙◌, ◌++◌, ◌∷◌, [], arith, false, refl, subst, take, true}
use Rattle.rtr_units.specs.AnyEnd.{end_meaning}
use Rattle.data_history.proofs.Listing.{all_listed, not_all, one_listed}
use Rattle.data_history.proofs.Steps.{no_flaw}
use Rattle.data_history.proofs.serials.write_serials.Goals as goal

pub steps-init : goal.steps-init
steps-init c = λ x ys back.
    record { y = x; zs = ys; more = back; number = omega arith; same = refl }

pub steps-preserved : goal.steps-preserved
steps-preserved c = λ x ys back.
    let l = c.steps in
    let t = l.invariant x ys back in
    let j = c.in-Ok.ensures.changes in
    one_listed l.rest.now c.in-Some.part.1.now c.in-Some.part.2.now l.output c.put_serial.new.output
    l.count (end_meaning c.in-Ok.end) j.0 ys t.y t.zs c.in-Some.ensures.is_there
    c.in-Some.ensures.bytes c.in-Some.ensures.rest j.1 t.more t.number t.same
    (subst (λ n. take (l.count + 1) c.put_serial.new.output ≡ take l.count l.output ++ n ∷ [])
    c.serial.ensures (c.put_serial.ensures.held (omega (arith, c.steps-test.true))))

pub returns-in-None : goal.returns-in-None
returns-in-None c = λ x ys back whole.
    let l = c.steps in
    let t = l.invariant x ys back in
    absurd (not_all l.rest.now l.count ys t.y t.zs l.output
    (λ part. let k : false ≡ true = c.in-None.ensures.finds part in absurd cc) t.more t.number
    c.steps-test.true (l.auto.output ∙ whole))

pub returns-in-Err : goal.returns-in-Err
returns-in-Err c = λ x ys back whole.
    let l = c.steps in
    let t = l.invariant x ys back in
    absurd (no_flaw l.rest.now c.in-Some.part.1.now c.in-Err.field-0 t.y t.zs
    c.in-Some.ensures.is_there c.in-Some.ensures.bytes c.in-Err.ensures.flaw t.more)

pub returns : goal.returns
returns c = λ x ys back whole.
    let l = c.steps in
    let t = l.invariant x ys back in (
      refl,
      all_listed l.count ys t.zs l.output t.number t.same (omega (arith, c.steps-test.false))
          (l.auto.output ∙ whole),
    )
