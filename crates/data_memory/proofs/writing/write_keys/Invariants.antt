use Rattle.std.proofs.Common.{◌≡◌, ◌++◌, map}
use Rattle.std.specs.BTreeSet.{difference}
use Rattle.std.specs.Map.Iter.{deref}
use Rattle.std.specs.Ordering.{on}
use Rattle.rtr_payload.specs.Meanings.{key_of}
use Rattle.rtr_payload.specs.Orders.{payload_cmp}
use Rattle.data_memory.proofs.Fronts.{Sent}
use Rattle.data_memory.proofs.writing.write_keys.Given as goal

abbrev pub invariant-loop-key : goal.invariant-loop-key
invariant-loop-key g l =
    (difference (on key_of payload_cmp) l.these l.those ≡
    map deref l.yielded ++ l.key-iterator)
    × Sent l.version l.action (g.W.Sink.state l.fn.writer) (g.W.Sink.state l.writer)
    (map key_of (map deref l.yielded))
