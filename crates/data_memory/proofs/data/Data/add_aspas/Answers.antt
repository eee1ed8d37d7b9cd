use Rattle.std.proofs.Common.{◌≡◌, ℕ, Bor, List, Ok, subst}
use Rattle.std.specs.Map.Iter.{deref_pair}
use Rattle.rtr_payload.specs.Meanings.{payload_of}
use Rattle.data_memory.specs.Contents.{announcing, entry_of}
use Rattle.data_memory.proofs.Applied.{announced_more}
use Rattle.data_memory.proofs.Fronts.{pushed, turn}
use Rattle.data_memory.proofs.data.Data.add_aspas.Goals as goal

pub loop-customer-preserved : goal.loop-customer-preserved
loop-customer-preserved c =
    let ys = c.loop-customer.yielded in
    let x : Bor ℕ × Bor (List ℕ) = (c.in-Some.customer, c.in-Some.providers) in (
      turn deref_pair ys x _ _ _ c.loop-customer.invariant.0 c.in-Some.ensures.steps,
      announced_more _ _ (entry_of (deref_pair x)) _ _ _
          (pushed deref_pair entry_of ys x) c.loop-customer.invariant.1
          (subst (λ ps. announcing (entry_of (c.in-Some.customer.now, ps)) c.loop-customer.self ≡
          Ok c.announce.new.self) c.in_ok-copy.ensures
          (subst (λ p. announcing (payload_of p) c.loop-customer.self ≡ Ok c.announce.new.self)
          c.aspa.ensures c.in-Ok.ensures)),
    )
