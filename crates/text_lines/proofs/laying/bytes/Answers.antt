use Rattle.std.proofs.Common.{rules}
use Rattle.text_lines.proofs.Laid.{lays_mid}
use Rattle.text_lines.proofs.laying.bytes.Goals as goal

pub returns-then-bytes-output : goal.returns-then-bytes-output
returns-then-bytes-output c =
    lays_mid c.args.at _ c.args.bytes.now c.args.output.now _ (search rules) (search rules)
    (search rules) (search rules)
