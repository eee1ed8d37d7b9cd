use Rattle.std.proofs.Common.{rules, refl, sym, append-nil, codes, ◌++◌}
use Rattle.std.specs.Map.Iter.{deref}
use Rattle.rtr_payload.specs.Meanings.{key_of}
use Rattle.data_memory.proofs.Fronts.{turn}
use Rattle.list_tables.specs.Tables.{object_text}
use Rattle.list_tables.proofs.Rows.{item_last, item_more, on_a_line, some_more}
use Rattle.list_tables.proofs.json_table.add_keys.Goals as goal

pub loop-key-init : goal.loop-key-init
loop-key-init c = record {
  turned = search rules;
  items = sym (append-nil _);
  first = refl;
}

pub loop-key-preserved : goal.loop-key-preserved
loop-key-preserved c =
    let i = c.loop-key.invariant in
    let xs = c.loop-key.yielded in
    let x = c.in-Some.key in
    record {
      turned = turn deref xs x _ _ _ i.turned c.in-Some.ensures.steps;
      items =
          item_more deref (λ t. codes "\n" ++ object_text (key_of t)) xs x _ _ _ _ _ i.items
          i.first refl
          (on_a_line _ _ _ _ _ _ c.before_item.ensures c.in_ok-text.ensures
          c.in_ok-add_key.ensures);
      first = some_more xs x;
    }

pub returns : goal.returns
returns c =
    let i = c.loop-key.invariant in
    item_last deref (λ t. codes "\n" ++ object_text (key_of t)) c.loop-key.yielded _ _ _ _
    i.turned c.in-None.ensures.steps.0 i.items
