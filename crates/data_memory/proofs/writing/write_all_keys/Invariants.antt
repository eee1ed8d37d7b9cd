use Rattle.std.proofs.Common.{◌≡◌, ◌++◌, map}
use Rattle.std.specs.Map.Iter.{deref}
use Rattle.rtr_base.specs.declared.action.Action.TheVariants.{Announce}
use Rattle.rtr_payload.specs.Meanings.{key_of}
use Rattle.data_memory.proofs.Fronts.{Sent}
use Rattle.data_memory.proofs.writing.write_all_keys.Given as goal

abbrev pub invariant-loop-key : goal.invariant-loop-key
invariant-loop-key g l =
    (l.keys.keys ≡ map deref l.yielded ++ l.key-iterator)
    × Sent l.version Announce (g.W.Sink.state l.fn.writer) (g.W.Sink.state l.writer)
    (map key_of (map deref l.yielded))
