use Rattle.std.proofs.Common.{◌++◌, codes, decimal, length, rules}
use Rattle.unit_any.specs.AnyFields.{any_list}
use Rattle.text_lines.specs.JsonLines.{kind_name}
use Rattle.text_lines.specs.ListedUnits.{fields_listed}
use Rattle.text_lines.specs.TextLines.{fields_version}
use Rattle.text_lines.proofs.Laid.{lays_both, lays_said}
use Rattle.text_lines.proofs.UnitPieces.{unit_said}
use Rattle.text_lines.proofs.unit_object.describe_json.Goals as goal

pub returns : goal.returns
returns c =
    let f = fields_listed c.args.unit.now in
    lays_said _ _ _ _ _ _ (unit_said c.args.offset f)
    (lays_both _ _ _ _ _ _ _ _ c.labelled-at.ensures
    (lays_both _ _ _ _ _ _ _ _
    (lays_said _ (codes ",\"length\":" ++ decimal (length (any_list f))) _ _ _ _ (search rules)
    c.labelled-at-2.ensures)
    (lays_both _ _ _ _ _ _ _ _
    (lays_said _ (codes ",\"kind\":\"" ++ kind_name f ++ codes "\"") _ _ _ _ (search rules)
    c.text-at.ensures)
    (lays_both _ _ _ _ _ _ _ _
    (lays_said _ (codes ",\"version\":" ++ decimal (fields_version f)) _ _ _ _ (search rules)
    c.labelled-at-3.ensures)
    c.own_fields.ensures))))
