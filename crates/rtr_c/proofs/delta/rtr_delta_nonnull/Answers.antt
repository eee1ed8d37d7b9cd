use Rattle.std.proofs.Common.{sym, ap, ◌∙◌}
use Rattle.rtr_c.proofs.DeltaRoom.{enough_room}
use Rattle.rtr_c.specs.DataAnswers.{delta_told}
use Rattle.rtr_c.proofs.delta.rtr_delta_nonnull.Goals as goal
use Rattle.rtr_c.proofs.delta.rtr_delta_nonnull.Goals.{in-Ok, in-Err}

pub returns-clause-room : goal.returns-clause-room
returns-clause-room c = λ enough. elim c.match-delta_into.branch [
  | in-Ok w ↦
      enough_room c.delta_into.result c.args.old_data.now c.args.new_data.now c.args.output.now
      c.delta_into.new.output c.match-delta_into.answer c.delta_into.ensures
      (w.answer-is ∙ w.wrote.ensures ∙ sym (ap delta_told w.in-Ok.is)) enough
  | in-Err w ↦
      enough_room c.delta_into.result c.args.old_data.now c.args.new_data.now c.args.output.now
      c.delta_into.new.output c.match-delta_into.answer c.delta_into.ensures
      (w.answer-is ∙ w.answer_of.ensures ∙ sym (ap delta_told w.in-Err.is)) enough
]
