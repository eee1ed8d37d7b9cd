use Rattle.session_bytes.proofs.Sending.{hears_asked, hears_sent}
use Rattle.session_bytes.proofs.laws.what_is_sent_is_heard.Goals as goal

pub returns-clause-router : goal.returns-clause-router
returns-clause-router c = hears_sent

pub returns-clause-cache : goal.returns-clause-cache
returns-clause-cache c = hears_asked
