use Rattle.std.proofs.Common.{codes, slice_index}
use Rattle.list_summary.specs.Summaries.{count_line, other_lines}
use Rattle.list_summary.proofs.SummaryPieces.{count_last, count_said, three_said}
use Rattle.list_summary.proofs.text.add_others.Goals as goal

pub returns : goal.returns
unfolding other_lines
returns c =
    let n1 = slice_index c.args.others.now.counts 7 in
    let n2 = slice_index c.args.others.now.counts 8 in
    let n3 = slice_index c.args.others.now.counts 10 in
    three_said c.add_count-3.result
    c.args.line.now
    c.add_count.new.line
    c.add_count-2.new.line
    c.add_count-3.new.line
    (count_line (codes "end of data:          ") n1)
    (count_line (codes "cache reset:          ") n2)
    (count_line (codes "error report:         ") n3)
    (count_said c.args.line.now c.add_count.new.line
    (codes "end of data:          ") c.get.result n1
    c.get.ensures c.in_ok-add_count.ensures)
    (count_said c.add_count.new.line c.add_count-2.new.line
    (codes "cache reset:          ") c.get-2.result n2
    c.get-2.ensures c.in_ok-add_count-2.ensures)
    (count_last c.add_count-3.result c.add_count-2.new.line c.add_count-3.new.line
    (codes "error report:         ") c.get-3.result n3
    c.get-3.ensures c.add_count-3.ensures)
