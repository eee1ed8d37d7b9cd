use Rattle.std.proofs.Common.{ℕ, ◌-◌, ◌^◌, ◌≤◌, List, length, flat_map}
use Rattle.std.specs.Char.Escape.{escape_ascii}
use Rattle.text_lines.specs.Laying.{Lays}
use Rattle.text_lines.proofs.pieces.escaped.Given as goal

-- what lays the rest from here on lays all
abbrev pub invariant-each : goal.invariant-each
invariant-each l = (l.end ≤ 2 ^ 64 - 1)
    × ((stop : ℕ) (after : List ℕ) → Lays (flat_map escape_ascii l.left) l.end l.output stop after →
    Lays (flat_map escape_ascii l.bytes) l.at l.initial.output stop after)

abbrev pub decreases-each : goal.decreases-each
decreases-each l = length l.left
