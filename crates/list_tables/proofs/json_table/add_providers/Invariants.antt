use Rattle.std.proofs.Common.{◌≡◌, ◌++◌, decimal}
use Rattle.list_tables.proofs.Rows.{is_none, items_so_far}
use Rattle.list_tables.proofs.json_table.add_providers.Given as goal

abbrev pub invariant-loop-provider : goal.invariant-loop-provider
invariant-loop-provider l = record {
  turned : l.yielded ++ l.provider-iterator ≡ l.providers;
  items : l.line ≡ l.initial.line ++ items_so_far (λ n. n) decimal l.yielded;
  first : l.first ≡ is_none l.yielded;
}
