use Rattle.std.proofs.Common.{arith, rules}
use Rattle.std.proofs.lemmas.Grind.{common_steps}
use Rattle.std.specs.Net.Text.{hex}
use Rattle.text_lines.proofs.Laid.{lays_said}
use Rattle.text_lines.proofs.addresses.segment.Goals as goal

pub returns : goal.returns
unfolding hex
returns c =
    lays_said _ _ _ _ _ _ (first_of (search rules, grind (arith, common_steps))) c.bytes.ensures
