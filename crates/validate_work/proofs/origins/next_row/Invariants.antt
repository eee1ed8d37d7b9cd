use Rattle.std.proofs.Common.{◌≡◌, ◌++◌, map}
use Rattle.std.specs.Map.Iter.{deref_pair}
use Rattle.validate_work.specs.RouteOrigins.{IsNextRow}
use Rattle.validate_work.proofs.origins.next_row.Given as goal

abbrev pub invariant-loop-asn : goal.invariant-loop-asn
invariant-loop-asn l = record {
  turned : l.fn.origins.entries ≡ map deref_pair l.yielded ++ l.asn-iterator;
  next : IsNextRow (map deref_pair l.yielded) l.after l.next;
}
