use Rattle.std.proofs.Common.{arith, rules}
use Rattle.text_lines.proofs.Laid.{lays_none, lays_said}
use Rattle.text_lines.proofs.text.timing.Goals as goal

pub returns-in-None : goal.returns-in-None
returns-in-None c =
    lays_said _ _ _ _ _ _ (search rules) (lays_none _ _ (omega (arith, c.ranges.at.fits)))
