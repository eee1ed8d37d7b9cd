use Rattle.std.proofs.Common.{rules, sym, append-nil}
use Rattle.std.specs.Map.Iter.{deref}
use Rattle.rtr_payload.specs.Meanings.{origin_of}
use Rattle.data_memory.proofs.Fronts.{turn}
use Rattle.list_tables.specs.Tables.{csv_row}
use Rattle.list_tables.proofs.Rows.{row_last, row_more}
use Rattle.list_tables.proofs.csv_table.add_rows.Goals as goal

pub loop-origin-init : goal.loop-origin-init
loop-origin-init c = record {
  turned = search rules;
  rows = sym (append-nil _);
}

pub loop-origin-preserved : goal.loop-origin-preserved
loop-origin-preserved c =
    let i = c.loop-origin.invariant in
    let xs = c.loop-origin.yielded in
    let x = c.in-Some.origin in
    record {
      turned = turn deref xs x _ _ _ i.turned c.in-Some.ensures.steps;
      rows = row_more deref (λ o. csv_row (origin_of o)) xs x _ _ _ i.rows
          (rw c.get.ensures at c.in_ok-add_row.ensures);
    }

pub returns : goal.returns
returns c =
    let i = c.loop-origin.invariant in
    row_last deref (λ o. csv_row (origin_of o)) c.loop-origin.yielded _ _ _ _ i.turned
    c.in-None.ensures.steps.0 i.rows
