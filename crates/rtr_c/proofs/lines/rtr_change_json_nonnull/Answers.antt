use Rattle.std.proofs.Common.{ap, rules}
use Rattle.text_lines.specs.PayloadLines.{change_json}
use Rattle.text_lines.proofs.Laid.{lays_said}
use Rattle.rtr_c.proofs.LinesTold.{line_told, refusal_told}
use Rattle.rtr_c.proofs.lines.rtr_change_json_nonnull.Goals as goal

pub returns-in-Err : goal.returns-in-Err
returns-in-Err c =
    refusal_told change_json c.args.input.now c.args.output.now _ (search rules)

pub returns : goal.returns
returns c =
    line_told change_json c.args.input.now c.in-Ok.unit.now c.args.output.now _
    c.describe_change_json-length.result _
    c.written.ensures (search rules)
    (lays_said _ _ _ _ _ _ (ap change_json c.listed_unit.ensures)
    c.describe_change_json-length.ensures)
