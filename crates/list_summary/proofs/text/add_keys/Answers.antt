use Rattle.std.proofs.Common.{codes, slice_index}
use Rattle.list_summary.specs.Summaries.{count_line, key_lines}
use Rattle.list_summary.proofs.SummaryPieces.{count_last, count_said, four_said}
use Rattle.list_summary.proofs.text.add_keys.Goals as goal

pub returns : goal.returns
unfolding key_lines
returns c =
    let n1 = slice_index c.args.announced.now.counts 9 in
    let n2 = slice_index c.args.others.now.counts 9 in
    let n3 = slice_index c.args.announced.now.counts 11 in
    let n4 = slice_index c.args.others.now.counts 11 in
    four_said c.add_count-4.result
    c.args.line.now
    c.add_count.new.line
    c.add_count-2.new.line
    c.add_count-3.new.line
    c.add_count-4.new.line
    (count_line (codes "router key announce:  ") n1)
    (count_line (codes "router key withdraw:  ") n2)
    (count_line (codes "ASPA announce:        ") n3)
    (count_line (codes "ASPA withdraw:        ") n4)
    (count_said c.args.line.now c.add_count.new.line
    (codes "router key announce:  ") c.get.result n1
    c.get.ensures c.in_ok-add_count.ensures)
    (count_said c.add_count.new.line c.add_count-2.new.line
    (codes "router key withdraw:  ") c.get-2.result n2
    c.get-2.ensures c.in_ok-add_count-2.ensures)
    (count_said c.add_count-2.new.line c.add_count-3.new.line
    (codes "ASPA announce:        ") c.get-3.result n3
    c.get-3.ensures c.in_ok-add_count-3.ensures)
    (count_last c.add_count-4.result c.add_count-3.new.line c.add_count-4.new.line
    (codes "ASPA withdraw:        ") c.get-4.result n4
    c.get-4.ensures c.add_count-4.ensures)
