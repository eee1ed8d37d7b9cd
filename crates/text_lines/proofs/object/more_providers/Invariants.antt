use Rattle.std.proofs.Common.{ℕ, List, length}
use Rattle.text_lines.proofs.JsonPieces.{providers_said}
use Rattle.text_lines.specs.Laying.{Lays}
use Rattle.text_lines.proofs.object.more_providers.Given as goal

-- what lays the rest from here on lays all
abbrev pub invariant-each : goal.invariant-each
invariant-each l =
    (stop : ℕ) (after : List ℕ) → Lays (providers_said l.left) l.end l.output stop after →
    Lays (providers_said l.providers) l.at l.initial.output stop after

abbrev pub decreases-each : goal.decreases-each
decreases-each l = length l.left
