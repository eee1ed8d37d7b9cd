use Rattle.std.proofs.Common.{◌≡◌, ◌++◌, length}
use Rattle.text_findings.specs.CheckedUnits.{found_list}
use Rattle.list_lines.proofs.check.put_each.Given as goal

-- what was found so far, and what the rest adds
abbrev pub invariant-each : goal.invariant-each
invariant-each l =
    l.found.items ++ found_list l.left ≡ l.initial.found.items ++ found_list l.slots

abbrev pub decreases-each : goal.decreases-each
decreases-each l = length l.left
