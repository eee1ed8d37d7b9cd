use Rattle.std.proofs.Common.{◌≡◌, ◌++◌, map}
use Rattle.std.specs.Map.Iter.{deref_pair}
use Rattle.data_memory.specs.Contents.{entry_of}
use Rattle.validate_work.specs.PrivateFiles.{TakesPayloads}
use Rattle.validate_work.proofs.recorded.take_aspas.Given as goal

abbrev pub invariant-loop-customer : goal.invariant-loop-customer
invariant-loop-customer l = record {
  turned : l.fn.aspas ≡ map deref_pair l.yielded ++ l.customer-iterator;
  taken : TakesPayloads (map entry_of (map deref_pair l.yielded)) l.initial.gathering l.gathering;
}
