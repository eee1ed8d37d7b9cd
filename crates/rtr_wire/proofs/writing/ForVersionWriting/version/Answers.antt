use Rattle.rtr_wire.proofs.Written.{version_written}
use Rattle.rtr_wire.proofs.writing.ForVersionWriting.version.Goals as goal

pub returns : goal.returns
returns c m n is e = version_written c.args.self.version m n e
