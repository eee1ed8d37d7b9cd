use Rattle.std.proofs.Common.{arith}
use Rattle.rtr_base.specs.Addresses.{width, family_of}
use Rattle.data_validation.proofs.Bits.{shared_few}
use Rattle.data_validation.proofs.vrp.shared.Goals as goal

pub returns : goal.returns
returns c = shared_few (width (family_of c.args.is_v4)) c.equal_bits-bits.result _
    c.args.left c.args.right (omega arith) c.if-left-step.false
