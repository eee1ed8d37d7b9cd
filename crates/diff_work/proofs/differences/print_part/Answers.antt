use Rattle.std.proofs.Common.{rules, Err, subst, sym}
use Rattle.std.proofs.lemmas.Result.{err_from_is_err_and}
use Rattle.data_memory.specs.Data.{IsData}
use Rattle.diff_work.proofs.Going.{going_begins, going_ends, going_on, going_starves, going_stops}
use Rattle.diff_work.proofs.Going.{in_form, wrote_in_form}
use Rattle.diff_work.proofs.Passing.{next_as, same_changed}
use Rattle.diff_work.proofs.differences.print_part.Goals as goal

pub changes-init : goal.changes-init
changes-init g c =
    let new = c.new-beside.ensures in
    record {
      going = going_begins _ _ _ _ _ _ (same_changed c.args.action new.others new.members);
      members = subst (λ l. IsData l) (sym new.members) c.requires.members;
      others = subst (λ l. IsData l) (sym new.others) c.requires.others;
      form = search rules;
      version = search rules;
    }

pub returns-in_default-clause-changes : goal.returns-in_default-clause-changes
returns-in_default-clause-changes g c =
    let done = going_ends _ _ _ _ _ _ _ _ c.changes.invariant.going c.in_default.ensures.takes.0 in
    (done.wrote, done.shows)

pub changes-preserved : goal.changes-preserved
changes-preserved g c =
    let i = c.changes.invariant in
    let next = next_as _ _ _ _ c.in-Some.ensures.takes c.in-Ok.ensures in
    record {
      going = going_on _ _ _ _ _ _ _ _ _ _ _ i.going next
          (wrote_in_form _ _ _ _ _ _ _ i.form i.version c.in_ok-print-in-Ok.ensures.piece);
      members = c.in-Some.ensures.members;
      others = c.in-Some.ensures.others;
      form = search rules;
      version = search rules;
    }

pub returns-in_err-print-in-Ok-clause-changes : goal.returns-in_err-print-in-Ok-clause-changes
returns-in_err-print-in-Ok-clause-changes g c =
    let i = c.changes.invariant in
    let next = next_as _ _ _ _ c.in-Some.ensures.takes c.in-Ok.ensures in
    let e = err_from_is_err_and c.from_residual.result c.from_residual.ensures.1 in
    rw (e.1, e.2) (
      going_stops _ _ _ _ _ _ _ _ _ _ _ _ i.going next
          (in_form (Err _) _ _ _ _ _ _ _ i.form i.version c.in_err-print-in-Ok.ensures.piece),
      tt,
    )

pub returns-in-Err-clause-changes : goal.returns-in-Err-clause-changes
returns-in-Err-clause-changes g c =
    (going_starves _ _ _ _ _ _ _ _ c.changes.invariant.going, tt)
