use Rattle.session_bytes.proofs.Connected.{serves_on}
use Rattle.session_bytes.proofs.laws.what_is_served_goes_on.Goals as goal

pub returns : goal.returns
returns c = serves_on
