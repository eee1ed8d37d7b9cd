use Rattle.std.proofs.Common.{◌≡◌, ◌++◌, map}
use Rattle.std.specs.Map.Iter.{deref}
use Rattle.rtr_payload.specs.Meanings.{origin_of}
use Rattle.validate_work.specs.PrivateFiles.{TakesPayloads}
use Rattle.validate_work.proofs.recorded.take_origins.Given as goal

abbrev pub invariant-loop-origin : goal.invariant-loop-origin
invariant-loop-origin l = record {
  turned : l.fn.origins ≡ map deref l.yielded ++ l.origin-iterator;
  taken : TakesPayloads (map origin_of (map deref l.yielded)) l.initial.gathering l.gathering;
}
