use Rattle.std.proofs.Common.{List, map, subst, sym}
use Rattle.std.specs.List.{AllByRecursion}
use Rattle.std.specs.Map.Iter.{deref}
use Rattle.rtr_payload.specs.Meanings.{origin_of}
use Rattle.rtr_payload.specs.declared.payload.RouteOrigin.{RouteOrigin}
use Rattle.data_memory.specs.Sequences.{IsInRange}
use Rattle.data_memory.proofs.Fronts.{turn, turned_all}
use Rattle.data_memory.proofs.Sendable.{range_more}
use Rattle.validate_work.proofs.ranges.origins_in_range.Goals as goal

pub loop-origin-preserved : goal.loop-origin-preserved
loop-origin-preserved c =
    let ys = c.loop-origin.yielded in
    let i = c.loop-origin.invariant in
    record {
      turned = turn deref ys c.in-Some.origin _ _ _ i.turned c.in-Some.ensures.steps;
      ranges = range_more deref origin_of ys c.in-Some.origin i.ranges
          (rw c.get.ensures at c.origin_in_range.ensures);
    }

pub returns : goal.returns
returns c =
    let i = c.loop-origin.invariant in
    let all = turned_all deref c.loop-origin.yielded _ _ i.turned c.in-None.ensures.steps.0 in
    subst (λ (os : List RouteOrigin). AllByRecursion (λ p. IsInRange p) (map origin_of os))
    (sym all) i.ranges
