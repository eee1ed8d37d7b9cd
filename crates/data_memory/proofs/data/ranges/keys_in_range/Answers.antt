use Rattle.std.specs.Map.Iter.{deref}
use Rattle.rtr_payload.specs.Meanings.{key_of}
use Rattle.data_memory.proofs.Fronts.{turn}
use Rattle.data_memory.proofs.Sendable.{range_more}
use Rattle.data_memory.proofs.data.ranges.keys_in_range.Goals as goal

pub loop-key-preserved : goal.loop-key-preserved
loop-key-preserved c =
    let ys = c.loop-key.yielded in (
      turn deref ys c.in-Some.key _ _ _ c.loop-key.invariant.0 c.in-Some.ensures.steps,
      range_more deref key_of ys c.in-Some.key c.loop-key.invariant.1
          c.key_in_range.ensures,
    )
