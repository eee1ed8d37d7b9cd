use Rattle.std.proofs.Common.{rules}
use Rattle.hex.specs.Hex.{encode_with}
use Rattle.text_lines.proofs.pieces.hex_of.Goals as goal

pub returns : goal.returns
unfolding encode_with
returns c = search rules
