use Rattle.std.specs.Map.Iter.{deref}
use Rattle.rtr_payload.specs.Meanings.{origin_of}
use Rattle.data_memory.proofs.Fronts.{turn}
use Rattle.data_memory.proofs.Sendable.{range_more}
use Rattle.data_memory.proofs.data.ranges.origins_in_range.Goals as goal

pub loop-origin-preserved : goal.loop-origin-preserved
loop-origin-preserved c =
    let ys = c.loop-origin.yielded in (
      turn deref ys c.in-Some.origin _ _ _ c.loop-origin.invariant.0 c.in-Some.ensures.steps,
      range_more deref origin_of ys c.in-Some.origin c.loop-origin.invariant.1
          (rw c.get.ensures at c.origin_in_range.ensures),
    )
