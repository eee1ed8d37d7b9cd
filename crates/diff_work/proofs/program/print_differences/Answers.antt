use Rattle.std.proofs.Common.{refl, Ok, Err, ◌∙◌, Bool}
use Rattle.std.proofs.lemmas.Result.{err_from_is_err_and}
use Rattle.diff_work.proofs.Going.{part_stops, part_printed, pieces_in_form}
use Rattle.diff_work.proofs.program.print_differences.Goals as goal

pub returns-in_err-any-clause-prints : goal.returns-in_err-any-clause-prints
returns-in_err-any-clause-prints g c =
    let p = err_from_is_err_and c.from_residual.result c.from_residual.ensures.1 in
    rw (p.1, p.2)
    (part_stops _ _ _ _ _ _ refl
    (pieces_in_form (Err _) _ _ _ _ _ _ _ c.new-printer.ensures.form
    (c.new-printer.ensures.version ∙ c.version.ensures)
    c.in_err-any.ensures.changes.0))

pub returns-in_err-print_end-clause-prints : goal.returns-in_err-print_end-clause-prints
returns-in_err-print_end-clause-prints g c =
    let p = err_from_is_err_and c.from_residual-in_err-print_end.result
    c.from_residual-in_err-print_end.ensures.1 in
    let any = c.in_ok-any.any in
    rw (p.1, p.2)
    (part_printed {S = Bool} {T = Bool} any (Err _) _ _ _ _ _ _ refl
    (pieces_in_form (Ok any) _ _ _ _ _ _ _ c.new-printer.ensures.form
    (c.new-printer.ensures.version ∙ c.version.ensures)
    c.in_ok-any.ensures.changes.0) c.in_err-print_end.ensures)

pub returns-clause-prints : goal.returns-clause-prints
returns-clause-prints g c =
    let any = c.in_ok-any.any in
    part_printed {S = Bool} {T = Bool} any (Ok any) _ _ _ _ _ _ refl
    (pieces_in_form (Ok any) _ _ _ _ _ _ _ c.new-printer.ensures.form
    (c.new-printer.ensures.version ∙ c.version.ensures)
    c.in_ok-any.ensures.changes.0) c.in_ok-print_end.ensures
