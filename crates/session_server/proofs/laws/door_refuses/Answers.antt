-- A server that serves one connection and refuses one, and has one.
use Rattle.std.proofs.Common.{true, [], ◌∷◌, refl}
use Rattle.session_server.specs.declared.door.Entry.TheVariants as entries
use Rattle.session_server.specs.Doors.{entered, new_door}
use Rattle.session_server.specs.Doors.IsHeld.{is_new, enters}
use Rattle.session_server.specs.Limits.{usual_server_settings}
use Rattle.session_server.proofs.laws.door_refuses.Goals as goal

pub returns : goal.returns
returns c = (
  record usual_server_settings { most_connections = 1; most_refused = 1 },
  entered (new_door (record usual_server_settings { most_connections = 1; most_refused = 1 }))
      entries.Serve,
  entries.Serve ∷ [],
  enters _ [] true is_new,
  refl,
)
