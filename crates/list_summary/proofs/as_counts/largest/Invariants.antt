use Rattle.std.specs.Map.Iter.{deref_pair}
use Rattle.list_summary.proofs.Rankings.{SoFar}
use Rattle.list_summary.proofs.as_counts.largest.Given as goal

abbrev pub invariant-loop-asn : goal.invariant-loop-asn
invariant-loop-asn l = SoFar deref_pair l.counts.entries l.yielded l.asn-iterator l.rows.items
