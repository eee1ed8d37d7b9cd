use Rattle.std.proofs.Common.{◌≡◌, ◌++◌, map}
use Rattle.std.specs.Map.Iter.{deref_pair}
use Rattle.rtr_base.specs.declared.action.Action.TheVariants.{Announce}
use Rattle.data_memory.specs.Contents.{entry_of}
use Rattle.data_memory.proofs.Fronts.{Sent}
use Rattle.data_memory.proofs.writing.write_all_aspas.Given as goal

abbrev pub invariant-loop-customer : goal.invariant-loop-customer
invariant-loop-customer g l =
    (l.aspas.entries ≡ map deref_pair l.yielded ++ l.customer-iterator)
    × Sent l.version Announce (g.W.Sink.state l.fn.writer) (g.W.Sink.state l.writer)
    (map entry_of (map deref_pair l.yielded))
