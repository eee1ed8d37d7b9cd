use Rattle.std.proofs.Common.{◌≡◌, ◌++◌, flat_map, map}
use Rattle.std.specs.Map.Iter.{deref}
use Rattle.rtr_payload.specs.Meanings.{origin_of}
use Rattle.list_tables.specs.Tables.{csv_row}
use Rattle.list_tables.proofs.csv_table.add_rows.Given as goal

abbrev pub invariant-loop-origin : goal.invariant-loop-origin
invariant-loop-origin l = record {
  turned : l.fn.origins ≡ map deref l.yielded ++ l.origin-iterator;
  rows : l.line ≡ l.initial.line ++ flat_map (λ o. csv_row (origin_of o)) (map deref l.yielded);
}
