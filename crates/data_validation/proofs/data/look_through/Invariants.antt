use Rattle.std.proofs.Common.{◌≡◌, ◌++◌, map}
use Rattle.std.specs.Map.Iter.{deref}
use Rattle.data_validation.specs.PrivateSets.{OriginsPassed}
use Rattle.data_validation.proofs.data.look_through.Given as goal

abbrev pub invariant-origins : goal.invariant-origins
invariant-origins l = record {
  turned : l.fn.origins ≡ map deref l.yielded ++ l.origin-iterator;
  passed : OriginsPassed (map deref l.yielded) l.route.prefix l.route.asn l.covered;
}
