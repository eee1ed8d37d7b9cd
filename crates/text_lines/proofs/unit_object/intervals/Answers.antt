use Rattle.std.proofs.Common.{rules}
use Rattle.text_lines.proofs.Laid.{lays_said}
use Rattle.text_lines.proofs.UnitPieces.{no_intervals_said}
use Rattle.text_lines.proofs.unit_object.intervals.Goals as goal

pub returns-in-None : goal.returns-in-None
returns-in-None c =
    lays_said _ _ _ _ _ _ (no_intervals_said c.args.timing (search rules)) c.text.ensures
