use Rattle.rtr_wire.proofs.Written.{version_kept}
use Rattle.rtr_wire.proofs.writing.EverythingWriting.version.Goals as goal

pub returns : goal.returns
returns c m n is e = version_kept m n c.args.version is e
