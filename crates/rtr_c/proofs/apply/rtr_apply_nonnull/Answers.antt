use Rattle.std.proofs.Common.{sym, ap, ◌∙◌}
use Rattle.rtr_c.proofs.ApplyRoom.{room_to_apply}
use Rattle.rtr_c.specs.DataAnswers.{apply_told}
use Rattle.rtr_c.proofs.apply.rtr_apply_nonnull.Goals as goal
use Rattle.rtr_c.proofs.apply.rtr_apply_nonnull.Goals.{in-Ok, in-Err}

pub returns-clause-room : goal.returns-clause-room
returns-clause-room c = λ enough. elim c.match-apply_into.branch [
  | in-Ok w ↦
      room_to_apply c.apply_into.result c.args.«data».now c.args.changes.now c.args.output.now
      c.apply_into.new.output c.match-apply_into.answer c.apply_into.ensures
      (w.answer-is ∙ w.wrote.ensures ∙ sym (ap apply_told w.in-Ok.is)) enough
  | in-Err w ↦
      room_to_apply c.apply_into.result c.args.«data».now c.args.changes.now c.args.output.now
      c.apply_into.new.output c.match-apply_into.answer c.apply_into.ensures
      (w.answer-is ∙ w.answer_of.ensures ∙ sym (ap apply_told w.in-Err.is)) enough
]
