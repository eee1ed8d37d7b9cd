use Rattle.std.proofs.Common.{ap, arith, rules, sym, ◌∙◌}
use Rattle.text_lines.specs.ListedUnits.{fields_listed}
use Rattle.text_lines.specs.TextLines.{change_text, signed_said}
use Rattle.text_lines.proofs.Laid.{lays_none, lays_said}
use Rattle.text_lines.proofs.text.describe_change.Goals as goal

pub returns-in-Payload : goal.returns-in-Payload
returns-in-Payload c =
    lays_said _ _ _ _ _ _
    (ap signed_said c.meant.ensures
    ∙ sym (ap (λ u. change_text (fields_listed u)) c.in-Payload.is)) c.signed.ensures

pub returns-in_default : goal.returns-in_default
returns-in_default c =
    lays_said _ _ _ _ _ _ (search rules) (lays_none _ _ (omega (arith, c.ranges.at.fits)))
