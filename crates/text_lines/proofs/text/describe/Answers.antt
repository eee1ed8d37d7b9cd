use Rattle.std.proofs.Common.{◌++◌, codes, decimal, rules}
use Rattle.text_lines.specs.ListedUnits.{fields_listed}
use Rattle.text_lines.specs.TextLines.{fields_version}
use Rattle.text_lines.proofs.Laid.{lays_both, lays_next, lays_said}
use Rattle.text_lines.proofs.text.describe.Goals as goal

pub returns : goal.returns
returns c =
    lays_both _ _ _ _ _ _ _ _
    (lays_next _ _ _ _ _ _ _ _ _ c.number-at.ensures
    (lays_said _ (codes " v" ++ decimal (fields_version (fields_listed c.args.unit.now))) _ _ _ _
    (search rules) c.labelled-at.ensures))
    c.describe_fields.ensures
