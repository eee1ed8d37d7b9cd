use Rattle.std.proofs.Common.{◌≡◌, ◌++◌, map, Ok}
use Rattle.std.specs.Map.Iter.{deref}
use Rattle.rtr_payload.specs.Meanings.{key_of}
use Rattle.data_memory.specs.Changes.{after_all}
use Rattle.data_memory.specs.Data.{announcement}
use Rattle.data_memory.proofs.data.Data.add_keys.Given as goal

abbrev pub invariant-loop-key : goal.invariant-loop-key
invariant-loop-key l =
    (l.keys.keys ≡ map deref l.yielded ++ l.key-iterator)
    × (after_all (map announcement (map key_of (map deref l.yielded))) (Ok l.fn.self) ≡ Ok l.self)
