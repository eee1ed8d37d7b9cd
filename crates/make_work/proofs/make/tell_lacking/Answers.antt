use Rattle.make_work.proofs.TimesSoFar.{some_lack}
use Rattle.make_work.proofs.make.tell_lacking.Goals as goal

pub returns : goal.returns
returns g c =
    rw (some_lack c.args.version c.args.left_out c.if-left_out-eq0.false) c.writeln.ensures.bytes
