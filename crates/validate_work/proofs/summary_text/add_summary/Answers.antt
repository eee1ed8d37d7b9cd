use Rattle.std.proofs.Common.{◌∙◌}
use Rattle.validate_work.proofs.Answering.{if_added}
use Rattle.validate_work.proofs.SummaryAdded.{adds_summary}
use Rattle.validate_work.proofs.summary_text.add_summary.Goals as goal

pub returns : goal.returns
returns c =
    if_added c.text.result _ _
    (adds_summary c.args.form c.args.compared c.args.summary.now c.len.result c.args.line.now
    c.add_counts.new.line c.add_origins_head.new.line c.add_rows.new.line c.text.new.self
    c.origins_end.result.now c.if-compared.false c.len.ensures.len c.in_ok-add_counts.ensures
    c.in_ok-add_origins_head.ensures c.in_ok-add_rows.ensures c.origins_end.ensures)
    c.text.ensures
