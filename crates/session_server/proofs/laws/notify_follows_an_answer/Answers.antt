use Rattle.std.proofs.Common.{refl}
use Rattle.session_cache.proofs.Examples.{named}
use Rattle.session_server.specs.Limits.{usual_server_settings}
use Rattle.session_server.proofs.Examples.{all_sent, cache, cache_then, half_sent, is_all_sent}
use Rattle.session_server.proofs.Examples.{is_half_sent, is_notified, is_reported, notified}
use Rattle.session_server.proofs.Examples.{notifies_so, reported}
use Rattle.session_server.proofs.laws.notify_follows_an_answer.Goals as goal

pub returns : goal.returns
returns c = record {
  whole = (usual_server_settings, notified, is_notified, refl);
  waits = (usual_server_settings, all_sent, cache, named 7 5, is_all_sent, refl, refl);
  sends = (usual_server_settings, half_sent, cache, named 7 5, is_half_sent, refl, refl);
  finishes = (usual_server_settings, reported, cache, named 7 6, is_reported, refl, refl);
  ticks = (
    usual_server_settings,
    all_sent,
    cache,
    cache_then,
    named 7 6,
    is_all_sent,
    refl,
    notifies_so,
  );
}
