use Rattle.std.proofs.Common.{ap, arith, rules, sym}
use Rattle.std.proofs.lemmas.List.{nil_from_length}
use Rattle.std.specs.Net.Text.{groups_text}
use Rattle.text_lines.proofs.Laid.{lays_none, lays_said}
use Rattle.text_lines.proofs.addresses.groups.Goals as goal

pub returns-in_default : goal.returns-in_default
returns-in_default c =
    lays_said _ _ _ _ _ _ (sym (ap groups_text (nil_from_length _ (search rules))))
    (lays_none _ _ (omega (arith, c.ranges.at.fits)))
