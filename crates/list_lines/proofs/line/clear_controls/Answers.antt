use Rattle.std.proofs.Common.{rules}
use Rattle.list_lines.proofs.Pieces.{cleared_more}
use Rattle.list_lines.proofs.line.clear_controls.Goals as goal

pub loop-byte-preserved : goal.loop-byte-preserved
loop-byte-preserved c =
    cleared_more c.args.text.now c.loop-byte.text c.loop-byte.byte-index c.max.result
    (search rules) (search rules) c.loop-byte.invariant (search rules)
