use Rattle.std.proofs.Common.{rules}
use Rattle.text_lines.proofs.Laid.{lays_said}
use Rattle.text_lines.proofs.unit_object.end.Goals as goal

pub returns : goal.returns
returns c = lays_said _ _ _ _ _ _ (search rules) c.state.ensures
