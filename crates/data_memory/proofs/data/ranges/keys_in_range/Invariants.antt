use Rattle.std.proofs.Common.{◌≡◌, ◌++◌, map}
use Rattle.std.specs.List.{AllByRecursion}
use Rattle.std.specs.Map.Iter.{deref}
use Rattle.rtr_payload.specs.Meanings.{key_of}
use Rattle.data_memory.specs.Sequences.{IsInRange}
use Rattle.data_memory.proofs.data.ranges.keys_in_range.Given as goal

abbrev pub invariant-loop-key : goal.invariant-loop-key
invariant-loop-key l =
    (l.keys.keys ≡ map deref l.yielded ++ l.key-iterator)
    × AllByRecursion (λ p. IsInRange p) (map key_of (map deref l.yielded))
