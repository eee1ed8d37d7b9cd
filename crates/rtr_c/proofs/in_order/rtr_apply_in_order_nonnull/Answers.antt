use Rattle.std.proofs.Common.{length, sym, ap, ◌∙◌}
use Rattle.rtr_c.proofs.RoomInOrder.{room_to_apply}
use Rattle.rtr_c.specs.DataAnswers.{in_order_told}
use Rattle.rtr_c.proofs.in_order.rtr_apply_in_order_nonnull.Goals as goal
use Rattle.rtr_c.proofs.in_order.rtr_apply_in_order_nonnull.Goals.{in-Ok, in-Err}

pub returns-clause-room : goal.returns-clause-room
returns-clause-room c = λ enough. elim c.match-apply_in_order.branch [
  | in-Ok w ↦
      room_to_apply c.apply_in_order.result c.args.«data».now c.args.changes.now
      (length c.args.index.now) c.args.output.now c.apply_in_order.new.output
      c.match-apply_in_order.answer c.apply_in_order.ensures
      (w.answer-is ∙ w.wrote.ensures ∙ sym (ap in_order_told w.in-Ok.is)) enough
  | in-Err w ↦
      room_to_apply c.apply_in_order.result c.args.«data».now c.args.changes.now
      (length c.args.index.now) c.args.output.now c.apply_in_order.new.output
      c.match-apply_in_order.answer c.apply_in_order.ensures
      (w.answer-is ∙ w.answer_of.ensures ∙ sym (ap in_order_told w.in-Err.is)) enough
]
