use Rattle.std.proofs.Common.{refl}
use Rattle.list_tables.specs.Tables.{csv_row, csv_text}
use Rattle.list_tables.proofs.Rows.{of_origins}
use Rattle.list_tables.proofs.Said.{last_said}
use Rattle.list_tables.proofs.csv_table.add_csv.Goals as goal

pub returns : goal.returns
unfolding csv_text
returns c =
    let parts = c.parts-origins.result in
    last_said _ _ _ _ _ _ _
    (of_origins csv_row parts.0 parts.1 parts.2 _ c.parts-origins.ensures.payloads (λ k. refl)
    (λ e. refl))
    c.in_ok-text.ensures c.add_rows.ensures
