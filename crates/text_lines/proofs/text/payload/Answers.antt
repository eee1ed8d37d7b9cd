use Rattle.std.proofs.Common.{◌++◌, codes, rules}
use Rattle.rtr_base.specs.Actions.{act}
use Rattle.rtr_base.specs.PlainTexts.{action_text}
use Rattle.text_lines.specs.TextLines.{kind_words, payload_flags}
use Rattle.text_lines.specs.ListedUnits.{payload_listed}
use Rattle.text_lines.proofs.Laid.{lays_both, lays_next, lays_said}
use Rattle.text_lines.proofs.text.payload.Goals as goal

pub returns : goal.returns
returns c =
    lays_both _ _ _ _ _ _ _ _
    (lays_next _ _ _ _ _ _ _ _ _
    (lays_said _ (kind_words (payload_listed c.args.unit.now)) _ _ _ _ (search rules)
    c.text-at.ensures)
    (lays_said _ (codes " " ++ action_text (act (payload_flags (payload_listed c.args.unit.now))))
    _ _ _ _ (search rules) c.text-at-2.ensures))
    c.parts.ensures
