use Rattle.std.proofs.Common.{◌≡◌, ◌++◌, take}
use Rattle.std.specs.List.{flat_map}
use Rattle.list_summary.specs.PrivateTallies.{kept_line}
use Rattle.list_summary.proofs.text.add_ended.Given as goal

abbrev pub invariant-loop-answer : goal.invariant-loop-answer
invariant-loop-answer l =
    l.line ≡ l.initial.line ++ flat_map kept_line (take l.answer-index l.answers)
