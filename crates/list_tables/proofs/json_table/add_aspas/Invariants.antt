use Rattle.std.proofs.Common.{◌≡◌, ◌++◌, codes, map}
use Rattle.std.specs.Map.Iter.{deref_pair}
use Rattle.data_memory.specs.Contents.{entry_of}
use Rattle.list_tables.specs.Tables.{object_text}
use Rattle.list_tables.proofs.Rows.{is_none, items_so_far}
use Rattle.list_tables.proofs.json_table.add_aspas.Given as goal

abbrev pub invariant-loop-customer : goal.invariant-loop-customer
invariant-loop-customer l = record {
  turned : l.fn.aspas ≡ map deref_pair l.yielded ++ l.customer-iterator;
  items : l.line ≡ l.initial.line
      ++ items_so_far deref_pair (λ t. codes "\n" ++ object_text (entry_of t)) l.yielded;
  first : l.first ≡ is_none l.yielded;
}
