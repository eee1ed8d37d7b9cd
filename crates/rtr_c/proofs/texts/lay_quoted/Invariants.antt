use Rattle.std.proofs.Common.{ℕ, ◌-◌, ◌^◌, ◌≤◌, List, length}
use Rattle.rtr_c.proofs.Quoting.{all_quoted}
use Rattle.text_lines.specs.Laying.{Lays}
use Rattle.rtr_c.proofs.texts.lay_quoted.Given as goal

-- what lays the rest from here on lays all
abbrev pub invariant-each : goal.invariant-each
invariant-each l = (l.end ≤ 2 ^ 64 - 1)
    × ((stop : ℕ) (after : List ℕ) → Lays (all_quoted l.left) l.end l.output stop after →
    Lays (all_quoted l.text) l.at l.initial.output stop after)

abbrev pub decreases-each : goal.decreases-each
decreases-each l = length l.left
