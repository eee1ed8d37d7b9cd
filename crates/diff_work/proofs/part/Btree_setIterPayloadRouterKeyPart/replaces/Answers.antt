use Rattle.diff_work.proofs.Passing.{same_key}
use Rattle.diff_work.proofs.part.Btree_setIterPayloadRouterKeyPart.replaces.Goals as goal

pub returns : goal.returns
returns c = same_key c.args._one.now c.args._other.now c.requires
