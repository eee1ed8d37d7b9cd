use Rattle.std.proofs.Common.{rules, refl, sym, append-nil, codes, ◌++◌}
use Rattle.std.specs.Map.Iter.{deref}
use Rattle.rtr_payload.specs.Meanings.{origin_of}
use Rattle.data_memory.proofs.Fronts.{turn}
use Rattle.list_tables.specs.Tables.{object_text}
use Rattle.list_tables.proofs.Rows.{item_last, item_more, on_a_line, some_more}
use Rattle.list_tables.proofs.json_table.add_origins.Goals as goal

pub loop-origin-init : goal.loop-origin-init
loop-origin-init c = record {
  turned = search rules;
  items = sym (append-nil _);
  first = refl;
}

pub loop-origin-preserved : goal.loop-origin-preserved
loop-origin-preserved c =
    let i = c.loop-origin.invariant in
    let xs = c.loop-origin.yielded in
    let x = c.in-Some.origin in
    record {
      turned = turn deref xs x _ _ _ i.turned c.in-Some.ensures.steps;
      items =
          item_more deref (λ t. codes "\n" ++ object_text (origin_of t)) xs x _ _ _ _ _ i.items
          i.first refl
          (on_a_line _ _ _ _ _ _ c.before_item.ensures c.in_ok-text.ensures
          (rw c.get.ensures at c.in_ok-add_origin.ensures));
      first = some_more xs x;
    }

pub returns : goal.returns
returns c =
    let i = c.loop-origin.invariant in
    item_last deref (λ t. codes "\n" ++ object_text (origin_of t)) c.loop-origin.yielded _ _ _ _
    i.turned c.in-None.ensures.steps.0 i.items
