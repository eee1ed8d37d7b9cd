use Rattle.std.proofs.Common.{◌≡◌, ◌++◌, map}
use Rattle.std.specs.List.{AllByRecursion}
use Rattle.std.specs.Map.Iter.{deref}
use Rattle.rtr_payload.specs.Meanings.{origin_of}
use Rattle.data_memory.specs.Sequences.{IsInRange}
use Rattle.validate_work.proofs.ranges.origins_in_range.Given as goal

abbrev pub invariant-loop-origin : goal.invariant-loop-origin
invariant-loop-origin l = record {
  turned : l.fn.origins ≡ map deref l.yielded ++ l.origin-iterator;
  ranges : AllByRecursion (λ p. IsInRange p) (map origin_of (map deref l.yielded));
}
