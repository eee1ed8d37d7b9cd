use Rattle.std.proofs.Common.{◌≡◌, ◌++◌, map}
use Rattle.std.specs.Map.Iter.{deref}
use Rattle.rtr_base.specs.declared.action.Action.TheVariants.{Announce}
use Rattle.rtr_payload.specs.Meanings.{origin_of}
use Rattle.data_memory.proofs.Fronts.{Sent}
use Rattle.data_memory.proofs.writing.write_all_origins.Given as goal

abbrev pub invariant-loop-origin : goal.invariant-loop-origin
invariant-loop-origin g l =
    (l.origins.keys ≡ map deref l.yielded ++ l.origin-iterator)
    × Sent l.version Announce (g.W.Sink.state l.fn.writer) (g.W.Sink.state l.writer)
    (map origin_of (map deref l.yielded))
