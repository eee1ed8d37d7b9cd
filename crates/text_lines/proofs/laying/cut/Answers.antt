use Rattle.std.proofs.Common.{rules}
use Rattle.text_lines.proofs.Laid.{lays_cut, lays_past}
use Rattle.text_lines.proofs.laying.cut.Goals as goal

pub returns-then-at-output : goal.returns-then-at-output
returns-then-at-output c =
    lays_past c.args.at c.args.bytes.now c.args.output.now _ (search rules) (search rules)

pub returns : goal.returns
returns c =
    lays_cut c.args.at _ c.args.bytes.now c.args.output.now _ _ (search rules) (search rules)
    (search rules) (search rules) (search rules)
