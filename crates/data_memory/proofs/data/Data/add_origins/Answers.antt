use Rattle.std.specs.Map.Iter.{deref}
use Rattle.rtr_payload.specs.Meanings.{origin_of}
use Rattle.data_memory.proofs.Applied.{announced_more}
use Rattle.data_memory.proofs.Fronts.{pushed, turn}
use Rattle.data_memory.proofs.data.Data.add_origins.Goals as goal

pub loop-origin-preserved : goal.loop-origin-preserved
loop-origin-preserved c =
    let ys = c.loop-origin.yielded in (
      turn deref ys c.in-Some.origin _ _ _ c.loop-origin.invariant.0 c.in-Some.ensures.steps,
      announced_more _ _ (origin_of c.in-Some.origin.now) _ _ _
          (pushed deref origin_of ys c.in-Some.origin) c.loop-origin.invariant.1
          (rw c.get.ensures at c.in-Ok.ensures),
    )
