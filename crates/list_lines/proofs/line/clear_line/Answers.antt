use Rattle.std.proofs.Common.{◌≤◌, length, max, rules}
use Rattle.list_lines.proofs.Pieces.{front_mapped}
use Rattle.list_lines.proofs.line.clear_line.Goals as goal

pub returns-clause-line : goal.returns-clause-line
returns-clause-line c =
    let least : c.args.len ≤ c.if-room-len-lt-BLOCK.blocks = search rules in
    let most : c.if-room-len-lt-BLOCK.blocks ≤ length c.args.room.now = search rules in
    front_mapped (λ byte. max byte 32) c.args.len c.if-room-len-lt-BLOCK.blocks c.args.room.now
    c.clear_controls.new.text _ least most (search rules)
