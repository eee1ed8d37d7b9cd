use Rattle.session_group.proofs.Showing.{changes_rightly}
use Rattle.session_group.proofs.laws.changes_with_it.Goals as goal

pub returns : goal.returns
returns x count s ms g c n h run = changes_rightly count s ms g c n h run
