use Rattle.std.proofs.Common.{◌<◌, ◌≤◌, ◌∙◌, ap, subst, sym}
use Rattle.csv.specs.Records.{fields_of}
use Rattle.make_work.specs.JsonNames.{is_part}
use Rattle.make_work.proofs.Columns.{ended, found, passed}
use Rattle.make_work.proofs.csv_columns.column_of.Goals as goal
use Rattle.make_work.proofs.csv_columns.column_of.Goals.{then-is_named, else-is_named}

pub loop-index-preserved : goal.loop-index-preserved
loop-index-preserved c =
    let p = c.args.part in
    let row = fields_of c.args.row.now in
    let i = c.loop-index.index in
    let so_far = c.loop-index.invariant.0 in
    let small = subst (λ n. i < n) c.loop-index.invariant.1 c.loop-index-test.true in
    let named = ap (is_part p) (sym c.field.ensures) ∙ sym c.is_named.ensures in
    elim c.if-is_named.branch [
      | then-is_named w ↦ (
        rw (w.column-is, w.found_again-column.ensures)
            (found p row i c.loop-index.column so_far small (named ∙ w.if-is_named.true)),
        c.loop-index.invariant.1,
      )
      | else-is_named w ↦ (
        rw w.column-is
            (passed p row i c.loop-index.column so_far small (named ∙ w.if-is_named.false)),
        c.loop-index.invariant.1,
      )
    ]

pub returns : goal.returns
returns c =
    let i = c.loop-index.index in
    ended c.args.part (fields_of c.args.row.now) i c.loop-index.column c.loop-index.invariant.0
    (subst (λ n. n ≤ i) c.loop-index.invariant.1 c.loop-index-test.false)
