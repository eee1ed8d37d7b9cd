use Rattle.std.proofs.Common.{◌≡◌, ◌++◌, map, Ok}
use Rattle.std.specs.Map.Iter.{deref}
use Rattle.rtr_payload.specs.Meanings.{origin_of}
use Rattle.data_memory.specs.Changes.{after_all}
use Rattle.data_memory.specs.Data.{announcement}
use Rattle.data_memory.proofs.data.Data.add_origins.Given as goal

abbrev pub invariant-loop-origin : goal.invariant-loop-origin
invariant-loop-origin l =
    (l.origins.keys ≡ map deref l.yielded ++ l.origin-iterator)
    × (after_all (map announcement (map origin_of (map deref l.yielded))) (Ok l.fn.self)
    ≡ Ok l.self)
