use Rattle.std.proofs.Common.{rules, refl, sym, append-nil, codes, ◌++◌, ℕ, List, Bor}
use Rattle.std.specs.Map.Iter.{deref_pair}
use Rattle.data_memory.specs.Contents.{entry_of}
use Rattle.data_memory.proofs.Fronts.{turn}
use Rattle.list_tables.specs.Tables.{object_text}
use Rattle.list_tables.proofs.Rows.{item_last, item_more, on_a_line, some_more}
use Rattle.list_tables.proofs.json_table.add_aspas.Goals as goal

pub loop-customer-init : goal.loop-customer-init
loop-customer-init c = record {
  turned = search rules;
  items = sym (append-nil _);
  first = refl;
}

pub loop-customer-preserved : goal.loop-customer-preserved
loop-customer-preserved c =
    let i = c.loop-customer.invariant in
    let xs = c.loop-customer.yielded in
    let x : Bor ℕ × Bor (List ℕ) = (c.in-Some.customer, c.in-Some.providers) in
    record {
      turned = turn deref_pair xs x _ _ _ i.turned c.in-Some.ensures.steps;
      items =
          item_more deref_pair (λ t. codes "\n" ++ object_text (entry_of t)) xs x _ _ _ _ _ i.items
          i.first refl
          (on_a_line _ _ _ _ _ _ c.before_item.ensures c.in_ok-text.ensures
          c.in_ok-add_aspa.ensures);
      first = some_more xs x;
    }

pub returns : goal.returns
returns c =
    let i = c.loop-customer.invariant in
    item_last deref_pair (λ t. codes "\n" ++ object_text (entry_of t))
    c.loop-customer.yielded _ _ _ _ i.turned c.in-None.ensures.steps.0 i.items
