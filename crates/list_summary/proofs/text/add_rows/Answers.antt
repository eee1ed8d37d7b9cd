use Rattle.std.proofs.Common.{◌++◌, ℕ, List, ap, sym, ◌∙◌, take, get_or}
use Rattle.std.specs.List.{flat_map}
use Rattle.std.proofs.lemmas.List.{flat_map_more, take_more}
use Rattle.list_summary.specs.Summaries.{as_line}
use Rattle.list_summary.proofs.text.add_rows.Goals as goal

pub loop-row-preserved : goal.loop-row-preserved
loop-row-preserved c =
    let rows : List (ℕ × ℕ) = c.args.rows.now in
    let row : ℕ × ℕ = get_or rows c.loop-row.row-index (0, 0) in
    (rw c.from.ensures at c.in_ok-add_number.ensures)
    ∙ ap (λ l. l ++ as_line row) c.loop-row.invariant
    ∙ flat_map_more as_line c.args.line.now (take c.loop-row.row-index rows) row
    ∙ ap (λ (l : List (ℕ × ℕ)). c.args.line.now ++ flat_map as_line l)
    (sym (take_more rows c.loop-row.row-index (0, 0) c.loop-row-test.true))
