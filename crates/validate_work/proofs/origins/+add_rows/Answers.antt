use Rattle.std.proofs.Common.{arith, ◌≡◌, ◌-◌, suc}
use Rattle.validate_work.proofs.NextRows.{row_added, rows_end}
use Rattle.validate_work.proofs.origins.+add_rows.Goals as goal

pub returns-in-None : goal.returns-in-None
returns-in-None t c =
    rows_end c.args.form c.args.most c.args.origins.now.entries c.args.after.now c.args.line.now
    c.in-None.ensures

pub returns-in_ok-add_row-in-Some : goal.returns-in_ok-add_row-in-Some
returns-in_ok-add_row-in-Some t c =
    row_added c.add_rows.result c.args.form c.args.most (c.args.most - 1)
    c.args.origins.now.entries c.args.after.now c.in-Some.row c.is_none.result c.args.line.now
    c.add_row.new.line c.add_rows.new.line (omega (arith, c.if-most-eq0.false)) c.in-Some.ensures
    c.is_none.ensures c.in_ok-add_row-in-Some.ensures c.add_rows.ensures
