use Rattle.std.proofs.Common.{◌≡◌, Ok, subst}
use Rattle.std.specs.Map.Iter.{deref}
use Rattle.rtr_payload.specs.Meanings.{key_of}
use Rattle.data_memory.specs.Contents.{announcing}
use Rattle.data_memory.proofs.Applied.{announced_more}
use Rattle.data_memory.proofs.Fronts.{pushed, turn}
use Rattle.data_memory.proofs.data.Data.add_keys.Goals as goal

pub loop-key-preserved : goal.loop-key-preserved
loop-key-preserved c =
    let ys = c.loop-key.yielded in (
      turn deref ys c.in-Some.key _ _ _ c.loop-key.invariant.0 c.in-Some.ensures.steps,
      announced_more _ _ (key_of c.in-Some.key.now) _ _ _
          (pushed deref key_of ys c.in-Some.key) c.loop-key.invariant.1
          (subst (λ k. announcing (key_of k) c.loop-key.self ≡ Ok c.announce.new.self)
          c.in_ok-copy.ensures c.in-Ok.ensures),
    )
