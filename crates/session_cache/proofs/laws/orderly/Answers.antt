use Rattle.session_cache.proofs.Orderly.{orderly}
use Rattle.session_cache.proofs.laws.orderly.Goals as goal

pub returns : goal.returns
returns c s moments cache run = orderly s moments cache run
