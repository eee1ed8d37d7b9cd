use Rattle.std.proofs.Common.{arith, rules}
use Rattle.text_lines.proofs.Laid.{lays_none, lays_said}
use Rattle.text_findings.proofs.naming.lay_name.Goals as goal

pub returns-in_default : goal.returns-in_default
returns-in_default c = lays_said _ _ _ _ _ _ (search rules) (lays_none 0 _ (omega arith))
