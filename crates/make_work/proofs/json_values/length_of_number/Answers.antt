use Rattle.std.proofs.Common.{refl}
use Rattle.rtr_base.proofs.Parsing.{reads_len, refuses_len}
use Rattle.make_work.proofs.json_values.length_of_number.Goals as goal

pub returns-in-Ok : goal.returns-in-Ok
returns-in-Ok c = reads_len c.args.text.now c.in-Ok.length c.in-Ok.ensures.value.0

pub returns-in-Err : goal.returns-in-Err
returns-in-Err c = (refl, refuses_len c.args.text.now c.in-Err.ensures.value.0)
