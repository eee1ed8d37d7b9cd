use Rattle.std.proofs.Common.{rules}
use Rattle.text_lines.proofs.EscapedStrings.{control_front, character_string}
use Rattle.text_lines.proofs.strings.front.Goals as goal

pub returns-then-is_control-clause-laid : goal.returns-then-is_control-clause-laid
returns-then-is_control-clause-laid c = (
  _,
  control_front c.args.first c.split_at.result.0.now c.split_at.result.1.now c.args.others.now
      (search rules) (search rules) (search rules) (search rules),
  c.unicode.ensures,
)

pub returns-clause-laid : goal.returns-clause-laid
returns-clause-laid c =
    (_, character_string c.args.first c.args.others.now (search rules), c.character.ensures)
