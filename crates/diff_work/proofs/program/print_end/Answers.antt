use Rattle.std.proofs.Common.{ap}
use Rattle.rtr_units.specs.AnyEnd.{end_bytes}
use Rattle.diff_work.specs.Differences.{last_piece}
use Rattle.diff_work.specs.declared.words.Form.{Form}
use Rattle.diff_work.proofs.Putting.{puts_form}
use Rattle.diff_work.proofs.program.print_end.Goals as goal

pub returns-in-Units : goal.returns-in-Units
returns-in-Units g c =
    puts_form c.write.result _ _ _ _
    (ap (λ (f : Form). last_piece f (end_bytes c.args.end.now)) c.in-Units.is)
    c.write.ensures.bytes
