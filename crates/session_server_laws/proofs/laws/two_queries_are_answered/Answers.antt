use Rattle.std.proofs.Common.{refl}
use Rattle.session_server.specs.Limits.{usual_server_settings}
use Rattle.session_server_laws.proofs.Example.{all_turn, had, reset_turn, run, service₆}
use Rattle.session_server_laws.proofs.laws.two_queries_are_answered.Goals as goal

pub returns : goal.returns
returns c = (
  usual_server_settings,
  had,
  service₆,
  all_turn,
  reset_turn,
  run,
  refl,
  refl,
  refl,
  refl,
  refl,
)
