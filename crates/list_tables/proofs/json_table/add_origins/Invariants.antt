use Rattle.std.proofs.Common.{◌≡◌, ◌++◌, codes, map}
use Rattle.std.specs.Map.Iter.{deref}
use Rattle.rtr_payload.specs.Meanings.{origin_of}
use Rattle.list_tables.specs.Tables.{object_text}
use Rattle.list_tables.proofs.Rows.{is_none, items_so_far}
use Rattle.list_tables.proofs.json_table.add_origins.Given as goal

abbrev pub invariant-loop-origin : goal.invariant-loop-origin
invariant-loop-origin l = record {
  turned : l.fn.origins ≡ map deref l.yielded ++ l.origin-iterator;
  items : l.line ≡ l.initial.line
      ++ items_so_far deref (λ t. codes "\n" ++ object_text (origin_of t)) l.yielded;
  first : l.first ≡ is_none l.yielded;
}
