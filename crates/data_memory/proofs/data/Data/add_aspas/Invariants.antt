use Rattle.std.proofs.Common.{◌≡◌, ◌++◌, map, Ok}
use Rattle.std.specs.Map.Iter.{deref_pair}
use Rattle.data_memory.specs.Changes.{after_all}
use Rattle.data_memory.specs.Contents.{entry_of}
use Rattle.data_memory.specs.Data.{announcement}
use Rattle.data_memory.proofs.data.Data.add_aspas.Given as goal

abbrev pub invariant-loop-customer : goal.invariant-loop-customer
invariant-loop-customer l =
    (l.aspas.entries ≡ map deref_pair l.yielded ++ l.customer-iterator)
    × (after_all (map announcement (map entry_of (map deref_pair l.yielded))) (Ok l.fn.self)
    ≡ Ok l.self)
