use Rattle.std.proofs.Common.{◌≡◌, ◌++◌, map}
use Rattle.std.specs.List.{filter}
use Rattle.std.specs.Map.Iter.{deref_pair}
use Rattle.rtr_base.specs.declared.action.Action.TheVariants.{Withdraw}
use Rattle.data_memory.specs.Contents.{entry_of}
use Rattle.data_memory.specs.PrivateForms.{lacks_customer}
use Rattle.data_memory.specs.Data.{name_of}
use Rattle.data_memory.proofs.Fronts.{Sent}
use Rattle.data_memory.proofs.writing.write_withdrawn.Given as goal

abbrev pub invariant-loop-customer : goal.invariant-loop-customer
invariant-loop-customer g l =
    (l.old.entries ≡ map deref_pair l.yielded ++ l.customer-iterator)
    × Sent l.version Withdraw (g.W.Sink.state l.fn.writer) (g.W.Sink.state l.writer)
    (map (λ e. name_of (entry_of e)) (filter (lacks_customer l.new) (map deref_pair l.yielded)))
