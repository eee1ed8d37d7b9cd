use Rattle.std.proofs.Common.{ap, leb, sym, ◌∙◌}
use Rattle.rtr_wire.proofs.Written.{version_writes}
use Rattle.rtr_wire.proofs.writing.ForVersionWriting.writes.Goals as goal

pub returns : goal.returns
returns c m is =
    ap (λ s. leb s c.args.self.version) (sym is) ∙ version_writes c.args.self.version m
