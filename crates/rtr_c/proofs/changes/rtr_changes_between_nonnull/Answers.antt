use Rattle.std.proofs.Common.{sym, ap, ◌∙◌}
use Rattle.rtr_c.proofs.DeltaRoom.{enough_between}
use Rattle.rtr_c.specs.DataAnswers.{delta_told}
use Rattle.rtr_c.proofs.changes.rtr_changes_between_nonnull.Goals as goal
use Rattle.rtr_c.proofs.changes.rtr_changes_between_nonnull.Goals.{in-Ok, in-Err}

pub returns-clause-room : goal.returns-clause-room
returns-clause-room c = λ enough. elim c.match-changes_between.branch [
  | in-Ok w ↦
      enough_between c.changes_between.result c.args.old_data.now c.args.new_data.now
      c.args.output.now c.changes_between.new.output c.match-changes_between.answer
      c.changes_between.ensures
      (w.answer-is ∙ w.wrote.ensures ∙ sym (ap delta_told w.in-Ok.is)) enough
  | in-Err w ↦
      enough_between c.changes_between.result c.args.old_data.now c.args.new_data.now
      c.args.output.now c.changes_between.new.output c.match-changes_between.answer
      c.changes_between.ensures
      (w.answer-is ∙ w.answer_of.ensures ∙ sym (ap delta_told w.in-Err.is)) enough
]
