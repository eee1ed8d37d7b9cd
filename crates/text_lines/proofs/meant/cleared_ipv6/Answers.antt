use Rattle.text_lines.proofs.ClearedBits.{cleared_refused}
use Rattle.text_lines.proofs.meant.cleared_ipv6.Goals as goal

pub returns-in-Err : goal.returns-in-Err
returns-in-Err c =
    cleared_refused 128 c.args.len c.args.bits _ _ c.from_v6_bits.ensures.exact c.in-Err.is
