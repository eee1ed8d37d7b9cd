use Rattle.std.proofs.Common.{sym, append-nil, slice_index}
use Rattle.list_summary.specs.Summaries.{length_lines}
use Rattle.list_summary.proofs.Tallies.{lengths_more}
use Rattle.list_summary.proofs.text.add_lengths.Goals as goal

pub loop-len-init : goal.loop-len-init
unfolding length_lines
loop-len-init c = sym (append-nil _)

pub loop-len-preserved : goal.loop-len-preserved
loop-len-preserved c =
    lengths_more c.args.name.now (slice_index c.args.lengths.now.counts) c.loop-len.len
    c.args.line.now c.loop-len.line _ c.loop-len.invariant
    (rw c.get.ensures at c.in_ok-add_length.ensures)
