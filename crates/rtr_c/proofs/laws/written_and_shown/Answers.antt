use Rattle.rtr_c.proofs.Kept.{kept_is}
use Rattle.rtr_c.proofs.laws.written_and_shown.Goals as goal

pub returns : goal.returns
returns c = λ b is.
    kept_is c.args.unit.now c.args.input.now b c.ranged.ensures c.are_bytes.ensures is
