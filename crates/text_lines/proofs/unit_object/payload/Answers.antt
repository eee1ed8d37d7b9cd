use Rattle.std.proofs.Common.{◌++◌, codes, decimal, rules}
use Rattle.rtr_base.specs.Actions.{act}
use Rattle.rtr_base.specs.PlainTexts.{action_text}
use Rattle.text_lines.specs.ListedUnits.{payload_listed}
use Rattle.text_lines.specs.TextLines.{payload_flags}
use Rattle.text_lines.proofs.Laid.{lays_both, lays_said}
use Rattle.text_lines.proofs.UnitPieces.{payload_said}
use Rattle.text_lines.proofs.unit_object.payload.Goals as goal

pub returns : goal.returns
returns c =
    let f = payload_listed c.args.unit.now in
    lays_said _ _ _ _ _ _ (payload_said f)
    (lays_both _ _ _ _ _ _ _ _
    (lays_said _ (codes ",\"flags\":" ++ decimal (payload_flags f)) _ _ _ _ (search rules)
    c.labelled-at.ensures)
    (lays_both _ _ _ _ _ _ _ _
    (lays_said _
    (codes ",\"action\":\"" ++ action_text (act (payload_flags f)) ++ codes "\"") _ _ _ _
    (search rules) c.text-at.ensures)
    (lays_both _ _ _ _ _ _ _ _ c.zeros-at.ensures c.last_fields.ensures)))
