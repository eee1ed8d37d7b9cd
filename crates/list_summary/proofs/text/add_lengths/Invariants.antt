use Rattle.std.proofs.Common.{◌≡◌, ◌++◌, slice_index}
use Rattle.list_summary.specs.Summaries.{length_lines}
use Rattle.list_summary.proofs.text.add_lengths.Given as goal

abbrev pub invariant-loop-len : goal.invariant-loop-len
invariant-loop-len l =
    l.line ≡ l.initial.line ++ length_lines l.name (slice_index l.lengths.counts) l.len
