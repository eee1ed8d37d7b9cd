use Rattle.std.proofs.Common.{◌++◌, codes, rules}
use Rattle.rtr_base.specs.Actions.{act}
use Rattle.rtr_base.specs.PlainTexts.{action_text}
use Rattle.text_lines.specs.JsonLines.{payload_kind}
use Rattle.text_lines.specs.ListedUnits.{payload_listed}
use Rattle.text_lines.specs.TextLines.{payload_flags}
use Rattle.text_lines.proofs.JsonPieces.{object_said}
use Rattle.text_lines.proofs.Laid.{lays_both, lays_said}
use Rattle.text_lines.proofs.object.describe_payload_json.Goals as goal

pub returns : goal.returns
returns c =
    let f = payload_listed c.args.unit.now in
    lays_said _ _ _ _ _ _ (object_said f)
    (lays_both _ _ _ _ _ _ _ _
    (lays_said _ (codes "{\"kind\":\"" ++ payload_kind f ++ codes "\"") _ _ _ _ (search rules)
    c.text-at.ensures)
    (lays_both _ _ _ _ _ _ _ _
    (lays_said _
    (codes ",\"action\":\"" ++ action_text (act (payload_flags f)) ++ codes "\"") _ _ _ _
    (search rules) c.text-at-2.ensures)
    c.last_fields.ensures))
