use Rattle.std.proofs.Common.{rules}
use Rattle.std.proofs.lemmas.List.{take_rest}
use Rattle.text_lines.proofs.ReadBack.{key_made}
use Rattle.text_lines.proofs.reading.key_of.Goals as goal

pub returns : goal.returns
returns c =
    key_made c.args.unit.now c.copy_from_slice.new.self c.u32_at.result _ (search rules)
    c.u32_at.ensures (take_rest c.args.unit.now 32)
