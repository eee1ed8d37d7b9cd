use Rattle.std.proofs.Common.{◌++◌, codes}
use Rattle.std.specs.Prelude.{decimal}
use Rattle.list_summary.specs.Summaries.{count_line}
use Rattle.list_summary.proofs.SummaryPieces.{four_said}
use Rattle.list_summary.proofs.text.add_answer.Goals as goal

pub returns : goal.returns
returns c =
    let answer = c.args.answer.now in
    four_said c.add_count.result
    c.args.line.now
    c.labelled.new.self
    c.labelled-2.new.self
    c.labelled-3.new.self
    c.add_count.new.line
    (codes "answer:               session " ++ decimal answer.session)
    (codes " serial " ++ decimal answer.serial)
    (codes " announces " ++ decimal answer.announced)
    (count_line (codes " withdraws ") answer.withdrawn)
    (rw c.from.ensures at c.in_ok-labelled.ensures)
    (rw c.from-2.ensures at c.in_ok-labelled-2.ensures)
    c.in_ok-labelled-3.ensures
    c.add_count.ensures
