use Rattle.std.proofs.Common.{◌≡◌, ◌++◌, map}
use Rattle.std.specs.Map.Iter.{deref}
use Rattle.rtr_payload.specs.Meanings.{key_of}
use Rattle.validate_work.specs.PrivateFiles.{TakesPayloads}
use Rattle.validate_work.proofs.recorded.take_keys.Given as goal

abbrev pub invariant-loop-key : goal.invariant-loop-key
invariant-loop-key l = record {
  turned : l.fn.keys ≡ map deref l.yielded ++ l.key-iterator;
  taken : TakesPayloads (map key_of (map deref l.yielded)) l.initial.gathering l.gathering;
}
