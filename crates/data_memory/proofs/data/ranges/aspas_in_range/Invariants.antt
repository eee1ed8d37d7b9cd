use Rattle.std.proofs.Common.{◌≡◌, ◌++◌, map}
use Rattle.std.specs.List.{AllByRecursion}
use Rattle.std.specs.Map.Iter.{deref_pair}
use Rattle.data_memory.specs.Contents.{entry_of}
use Rattle.data_memory.specs.Sequences.{IsInRange}
use Rattle.data_memory.proofs.data.ranges.aspas_in_range.Given as goal

abbrev pub invariant-loop-customer : goal.invariant-loop-customer
invariant-loop-customer l =
    (l.aspas.entries ≡ map deref_pair l.yielded ++ l.customer-iterator)
    × AllByRecursion (λ p. IsInRange p) (map entry_of (map deref_pair l.yielded))
