use Rattle.std.proofs.Common.{◌∙◌, sym}
use Rattle.rtr_base.specs.Addresses.{family_of, width}
use Rattle.data_validation.proofs.Bits.{cleared_begin}
use Rattle.data_validation.proofs.vrp.beginning.Goals as goal

pub returns-clause-byte : goal.returns-clause-byte
returns-clause-byte c = λ long.
    c.first_byte-byte.ensures
    ∙ sym (cleared_begin (width (family_of c.args.is_v4)) c.args.len c.args.address long)
