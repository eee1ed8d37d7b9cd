use Rattle.rtr_c.proofs.Shown.{first_shown, first_refused}
use Rattle.rtr_c.proofs.next.show_first.Goals as goal

pub returns-in-Ok : goal.returns-in-Ok
returns-in-Ok g c =
    first_shown c.in-Ok.view c.in-Ok.size c.args.input.now c.show.new.unit c.in-Ok.ensures.within
    c.in-Ok.ensures.view (c.show.ensures c.none.ensures)

pub returns-in-Err : goal.returns-in-Err
returns-in-Err g c =
    first_refused c.in-Err.refusal.fault c.in-Err.refusal.size c.args.input.now c.refuse.new.unit
    c.refuse.result c.in-Err.ensures.fault (c.refuse.ensures c.none-in-Err.ensures)
