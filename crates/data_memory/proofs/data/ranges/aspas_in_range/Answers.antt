use Rattle.std.proofs.Common.{ℕ, Bor, List}
use Rattle.std.specs.Map.Iter.{deref_pair}
use Rattle.data_memory.specs.Contents.{entry_of}
use Rattle.data_memory.proofs.Fronts.{turn}
use Rattle.data_memory.proofs.Sendable.{range_more}
use Rattle.data_memory.proofs.data.ranges.aspas_in_range.Goals as goal

pub loop-customer-preserved : goal.loop-customer-preserved
loop-customer-preserved c =
    let ys = c.loop-customer.yielded in
    let x : Bor ℕ × Bor (List ℕ) = (c.in-Some.customer, c.in-Some.providers) in (
      turn deref_pair ys x _ _ _ c.loop-customer.invariant.0 c.in-Some.ensures.steps,
      range_more deref_pair entry_of ys x c.loop-customer.invariant.1 c.aspa_in_range.ensures,
    )
