use Rattle.std.proofs.Common.{rules, arith}
use Rattle.std.proofs.Output.{has_written_append, has_written_of_eq}
use Rattle.hex.specs.Hex.{encode_with}
use Rattle.rtr_base.proofs.HexTexts.{encode_more}
use Rattle.rtr_base.proofs.texts.KeyIdentifierDisplay.fmt.Goals as goal

pub loop-byte-init : goal.loop-byte-init
unfolding encode_with
loop-byte-init g c = search rules

pub loop-byte-preserved : goal.loop-byte-preserved
loop-byte-preserved g c = λ plain.
    let byte = c.type_inv.byte-items c.loop-byte.byte-index in
    has_written_of_eq _ _ _ _ _
    (encode_more c.as_slice-byte-items.result.now c.loop-byte.byte-index (search rules)
    (omega (arith, byte)))
    (has_written_append _ _ _ _ _ _ (c.loop-byte.invariant plain) (search rules))
