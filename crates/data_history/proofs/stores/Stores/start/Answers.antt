use Rattle.std.proofs.Common.{Err, length, subst, sym, take}
use Rattle.data_history.specs.Checks.{IsShortForCheck}
use Rattle.data_history.specs.Stores.{ChecksStore}
use Rattle.data_history.specs.Life.{started}
use Rattle.data_history.specs.Store.{HoldsStore}
use Rattle.data_history.proofs.stores.Stores.start.Goals as goal

pub returns-in-Ok-clause-life : goal.returns-in-Ok-clause-life
returns-in-Ok-clause-life c = λ xs second l.
    let k = c.in-Ok.ensures.checks in (
      k.0,
      started xs (take c.args.size c.args.first.now) k.0 k.1 l
          (subst (λ b. HoldsStore b k.0 k.1) c.front.ensures k.2),
    )

pub returns-in-Ok-clause-store : goal.returns-in-Ok-clause-store
returns-in-Ok-clause-store c =
    let k = c.in-Ok.ensures.checks in
    (k.0, k.1, subst (λ b. HoldsStore b k.0 k.1) c.front.ensures k.2)

pub returns-in-Err-clause-none : goal.returns-in-Err-clause-none
returns-in-Err-clause-none c = λ is x ys h.
    subst (λ f. ChecksStore (Err f) c.front.result.now) is c.in-Err.ensures.checks x ys
    (subst (λ b. HoldsStore b x ys) (sym c.front.ensures) h)

pub returns-in-Err-clause-rooms : goal.returns-in-Err-clause-rooms
returns-in-Err-clause-rooms c =
    subst (λ b. IsShortForCheck (Err c.in-Err.fault) (length b) (length c.args.index.now)
    (length c.args.buffer.now)) c.front.ensures c.in-Err.ensures.rooms
