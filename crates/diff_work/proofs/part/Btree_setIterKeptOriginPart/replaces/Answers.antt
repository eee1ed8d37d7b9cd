use Rattle.diff_work.proofs.Passing.{same_origin}
use Rattle.diff_work.proofs.part.Btree_setIterKeptOriginPart.replaces.Goals as goal

pub returns : goal.returns
returns c = same_origin c.args._one.now c.args._other.now c.requires
