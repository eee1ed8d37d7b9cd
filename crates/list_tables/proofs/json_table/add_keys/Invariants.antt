use Rattle.std.proofs.Common.{◌≡◌, ◌++◌, codes, map}
use Rattle.std.specs.Map.Iter.{deref}
use Rattle.rtr_payload.specs.Meanings.{key_of}
use Rattle.list_tables.specs.Tables.{object_text}
use Rattle.list_tables.proofs.Rows.{is_none, items_so_far}
use Rattle.list_tables.proofs.json_table.add_keys.Given as goal

abbrev pub invariant-loop-key : goal.invariant-loop-key
invariant-loop-key l = record {
  turned : l.fn.keys ≡ map deref l.yielded ++ l.key-iterator;
  items : l.line ≡ l.initial.line
      ++ items_so_far deref (λ t. codes "\n" ++ object_text (key_of t)) l.yielded;
  first : l.first ≡ is_none l.yielded;
}
