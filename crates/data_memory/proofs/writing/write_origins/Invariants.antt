use Rattle.std.proofs.Common.{◌≡◌, ◌++◌, map}
use Rattle.std.specs.BTreeSet.{difference}
use Rattle.std.specs.Map.Iter.{deref}
use Rattle.std.specs.Ordering.{on}
use Rattle.rtr_payload.specs.Meanings.{origin_of}
use Rattle.rtr_payload.specs.Orders.{payload_cmp}
use Rattle.data_memory.proofs.Fronts.{Sent}
use Rattle.data_memory.proofs.writing.write_origins.Given as goal

abbrev pub invariant-loop-origin : goal.invariant-loop-origin
invariant-loop-origin g l =
    (difference (on origin_of payload_cmp) l.these l.those ≡
    map deref l.yielded ++ l.origin-iterator)
    × Sent l.version l.action (g.W.Sink.state l.fn.writer) (g.W.Sink.state l.writer)
    (map origin_of (map deref l.yielded))
