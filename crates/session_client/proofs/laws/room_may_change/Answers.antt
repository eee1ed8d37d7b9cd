use Rattle.session_client.proofs.CountsKept.{counts_still}
use Rattle.session_client.proofs.Runs.{runs_still}
use Rattle.session_client.proofs.laws.room_may_change.Goals as goal

pub returns : goal.returns
returns c s k input input' buffer buffer' fits same x = record {
  made = x.made;
  were = x.were;
  stands = λ caller settings makes.
      runs_still caller k.router k.holding k.kept k.filled k.shown input input' buffer buffer'
      fits.due same.front same.shown (x.stands caller settings makes);
  counts =
      counts_still k.router k.holding k.kept k.filled input input' fits.due same.front x.counts;
}
