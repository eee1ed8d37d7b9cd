use Rattle.std.proofs.Common.{◌≡◌, ◌++◌, take}
use Rattle.std.specs.List.{flat_map}
use Rattle.list_summary.specs.Summaries.{as_line}
use Rattle.list_summary.proofs.text.add_rows.Given as goal

abbrev pub invariant-loop-row : goal.invariant-loop-row
invariant-loop-row l = l.line ≡ l.initial.line ++ flat_map as_line (take l.row-index l.rows)
