use Rattle.std.proofs.Common.{refl, Ok, Err, ◌++◌}
use Rattle.std.proofs.lemmas.Result.{err_from_is_err_and}
use Rattle.data_memory.specs.Changes.{announcements, withdrawals}
use Rattle.diff_work.proofs.Going.{changes_stop, then_changes, pieces_in_form, any_of_two}
use Rattle.diff_work.proofs.differences.print_changes.Goals as goal

pub returns-in_err-announced-clause-changes : goal.returns-in_err-announced-clause-changes
returns-in_err-announced-clause-changes g c =
    let ps = announcements c.args.old.now c.args.new.now in
    let qs = withdrawals c.args.old.now c.args.new.now in
    let p = err_from_is_err_and c.from_residual.result c.from_residual.ensures.1 in
    rw (p.1, p.2)
    (changes_stop _ _ _ _ _ ps qs (ps ++ qs) refl c.in_err-announced.ensures.changes.0, tt)

pub returns-in_err-withdrawn-clause-changes : goal.returns-in_err-withdrawn-clause-changes
returns-in_err-withdrawn-clause-changes g c =
    let ps = announcements c.args.old.now c.args.new.now in
    let qs = withdrawals c.args.old.now c.args.new.now in
    let p = err_from_is_err_and c.from_residual-in_err-withdrawn.result
    c.from_residual-in_err-withdrawn.ensures.1 in
    let first = c.in_ok-announced.ensures in
    rw (p.1, p.2) (
      then_changes c.in_ok-announced.announced (Err _) _ _ _ _ _ ps qs (ps ++ qs) refl
          first.changes.0
          (pieces_in_form (Err _) _ _ _ _ _ _ qs first.form first.version
          c.in_err-withdrawn.ensures.changes.0),
      tt,
    )

pub returns-clause-changes : goal.returns-clause-changes
returns-clause-changes g c =
    let ps = announcements c.args.old.now c.args.new.now in
    let qs = withdrawals c.args.old.now c.args.new.now in
    let first = c.in_ok-announced.ensures in
    let second = c.in_ok-withdrawn.ensures in
    let x = c.in_ok-announced.announced in
    let y = c.in_ok-withdrawn.withdrawn in (
      then_changes x (Ok y) _ _ _ _ _ ps qs (ps ++ qs) refl first.changes.0
          (pieces_in_form (Ok y) _ _ _ _ _ _ qs first.form first.version second.changes.0),
      any_of_two x y ps qs (ps ++ qs) refl first.changes.1 second.changes.1,
    )
