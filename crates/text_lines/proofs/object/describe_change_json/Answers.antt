use Rattle.std.proofs.Common.{ap, arith, rules, sym, ◌∙◌}
use Rattle.text_lines.specs.ListedUnits.{fields_listed}
use Rattle.text_lines.specs.PayloadLines.{change_json, payload_json}
use Rattle.text_lines.proofs.Laid.{lays_none, lays_said}
use Rattle.text_lines.proofs.object.describe_change_json.Goals as goal

pub returns-in-Payload : goal.returns-in-Payload
returns-in-Payload c =
    lays_said _ _ _ _ _ _
    (ap payload_json c.meant.ensures
    ∙ sym (ap (λ u. change_json (fields_listed u)) c.in-Payload.is))
    c.describe_payload_json.ensures

pub returns-in_default : goal.returns-in_default
returns-in_default c =
    lays_said _ _ _ _ _ _ (search rules) (lays_none _ _ (omega (arith, c.ranges.at.fits)))
