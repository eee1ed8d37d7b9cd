use Rattle.std.proofs.Common.{ap}
use Rattle.validate_work.specs.declared.counts.Counts.{Counts}
use Rattle.validate_work.specs.declared.counts.Summary.{Summary}
use Rattle.validate_work.proofs.CountedSoFar.{counts_refused}
use Rattle.validate_work.proofs.counts.count_line.Goals as goal

pub returns-in-Err-2-clause-counts : goal.returns-in-Err-2-clause-counts
returns-in-Err-2-clause-counts g c =
    let s = c.args.summary.now in
    counts_refused g.T.Refusals.hears c.args.strict c.args.table c.args.lists c.args.number
    c.args.text.now s _ c.args.refusals.now c.tell.new.self c.in-Err.error c.if-strict.false
    c.in-Err.ensures c.tell.ensures
    (ap (λ (k : Counts). record s { counts = k }) c.with_refused-summary.ensures)
