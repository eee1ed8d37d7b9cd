use Rattle.list_lines.proofs.Shown.{appended}
use Rattle.list_lines.proofs.line.Line.show.Goals as goal

pub returns-in-Ok : goal.returns-in-Ok
returns-in-Ok g c = appended _ _ _ c.in-Ok.ensures.writes
