use Rattle.session_server.proofs.Doors.{counted, keeps_limits}
use Rattle.session_server.proofs.laws.door_keeps_its_limits.Goals as goal

pub returns : goal.returns
returns c = record { limits = keeps_limits; counted = counted }
