use Rattle.std.proofs.Common.{◌≡◌, arith, false, true}
use Rattle.data_history.proofs.Listing.{no_more, one_more}
use Rattle.data_history.proofs.serials.steps_in.Goals as goal

pub steps-init : goal.steps-init
steps-init c = (
  λ x ys back. record { y = x; zs = ys; more = back; number = omega arith },
  omega arith,
)

pub steps-preserved : goal.steps-preserved
steps-preserved c =
    let l = c.steps in (
      λ x ys back.
          let t = l.invariant.0 x ys back in
          one_more l.rest.now c.in-Some.part.2.now l.count _ t.y t.zs c.in-Some.ensures.is_there
          c.in-Some.ensures.rest t.more t.number,
      omega (arith, l.invariant.1, c.in-Some.ensures.shorter),
    )

pub returns-in-None-clause-number : goal.returns-in-None-clause-number
returns-in-None-clause-number c = λ x ys back.
    let l = c.steps in
    let t = l.invariant.0 x ys back in
    no_more l.rest.now l.count _ t.y t.zs
    (λ part. let k : false ≡ true = c.in-None.ensures.finds part in absurd cc) t.more t.number
