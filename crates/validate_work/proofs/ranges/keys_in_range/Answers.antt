use Rattle.std.proofs.Common.{List, map, subst, sym}
use Rattle.std.specs.List.{AllByRecursion}
use Rattle.std.specs.Map.Iter.{deref}
use Rattle.rtr_payload.specs.Meanings.{key_of}
use Rattle.rtr_payload.specs.declared.payload.RouterKey.{RouterKey}
use Rattle.data_memory.specs.Sequences.{IsInRange}
use Rattle.data_memory.proofs.Fronts.{turn, turned_all}
use Rattle.data_memory.proofs.Sendable.{range_more}
use Rattle.validate_work.proofs.ranges.keys_in_range.Goals as goal

pub loop-key-preserved : goal.loop-key-preserved
loop-key-preserved c =
    let ys = c.loop-key.yielded in
    let i = c.loop-key.invariant in
    record {
      turned = turn deref ys c.in-Some.key _ _ _ i.turned c.in-Some.ensures.steps;
      ranges = range_more deref key_of ys c.in-Some.key i.ranges c.key_in_range.ensures;
    }

pub returns : goal.returns
returns c =
    let i = c.loop-key.invariant in
    let all = turned_all deref c.loop-key.yielded _ _ i.turned c.in-None.ensures.steps.0 in
    subst (λ (ks : List RouterKey). AllByRecursion (λ p. IsInRange p) (map key_of ks))
    (sym all) i.ranges
