use Rattle.std.proofs.Common.{ℕ, ◌-◌, ◌^◌, ◌≤◌, List, length}
use Rattle.text_lines.proofs.OneMore.{segments_said}
use Rattle.text_lines.specs.Laying.{Lays}
use Rattle.text_lines.proofs.addresses.more.Given as goal

-- what lays the rest from here on lays all
abbrev pub invariant-each : goal.invariant-each
invariant-each l = (l.end ≤ 2 ^ 64 - 1)
    × ((stop : ℕ) (after : List ℕ) → Lays (segments_said l.left) l.end l.output stop after →
    Lays (segments_said l.segments) l.at l.initial.output stop after)

abbrev pub decreases-each : goal.decreases-each
decreases-each l = length l.left
