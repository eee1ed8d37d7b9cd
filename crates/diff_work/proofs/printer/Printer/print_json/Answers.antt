use Rattle.diff_work.proofs.Putting.{puts_form, json_piece}
use Rattle.diff_work.proofs.printer.Printer.print_json.Goals as goal

pub returns-in-Ok-clause-piece : goal.returns-in-Ok-clause-piece
returns-in-Ok-clause-piece g c =
    puts_form c.put.result _ _ _ _
    (json_piece _ _ _ _ _ _ _ _ c.as_bytes.ensures c.in-Ok.ensures c.clear.ensures
    c.from_payload-unit.ensures.fields c.into_flags.ensures.flags) c.put.ensures.bytes
