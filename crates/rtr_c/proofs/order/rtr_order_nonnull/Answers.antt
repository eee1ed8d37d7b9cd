use Rattle.std.proofs.Common.{length, sym, ap, ◌∙◌}
use Rattle.rtr_c.proofs.OrderRoom.{room_to_order}
use Rattle.rtr_c.specs.DataAnswers.{order_told}
use Rattle.rtr_c.proofs.order.rtr_order_nonnull.Goals as goal
use Rattle.rtr_c.proofs.order.rtr_order_nonnull.Goals.{in-Ok, in-Err}

pub returns-clause-room : goal.returns-clause-room
returns-clause-room c = λ enough. elim c.match-order_into.branch [
  | in-Ok w ↦
      room_to_order c.order_into.result c.args.input.now (length c.args.index.now)
      c.args.output.now c.order_into.new.output c.match-order_into.answer c.order_into.ensures
      (w.answer-is ∙ w.wrote.ensures ∙ sym (ap order_told w.in-Ok.is)) enough
  | in-Err w ↦
      room_to_order c.order_into.result c.args.input.now (length c.args.index.now)
      c.args.output.now c.order_into.new.output c.match-order_into.answer c.order_into.ensures
      (w.answer-is ∙ w.answer_of.ensures ∙ sym (ap order_told w.in-Err.is)) enough
]
