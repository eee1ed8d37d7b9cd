use Rattle.session_group.proofs.Showing.{never_older}
use Rattle.session_group.proofs.laws.never_older.Goals as goal

pub returns : goal.returns
returns x count s ms g c n h run = never_older count s ms g c n h run
