use Rattle.make_work.proofs.Numbers.{no_number, number_read}
use Rattle.make_work.proofs.words.number.Goals as goal

pub returns-in-Ok : goal.returns-in-Ok
returns-in-Ok c = number_read 32 c.args.text.now c.in-Ok.number c.in-Ok.ensures.value.0

pub returns-in-Err : goal.returns-in-Err
returns-in-Err c = no_number 32 c.args.text.now c.in-Err.ensures.value.0
