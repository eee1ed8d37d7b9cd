use Rattle.std.proofs.Common.{ℕ, ◌+◌, List, Ok, Err, refl, ◌∙◌, subst, arith}
use Rattle.validate_work.proofs.CountedSoFar.{ends_well, goes_on, stops_counting, stops_reading}
use Rattle.validate_work.specs.PrivateCounts.{CountsLine}
use Rattle.validate_work.proofs.counts.count_lines.Goals as goal

pub returns-in-Err : goal.returns-in-Err
returns-in-Err g c =
    let i = c.lines.invariant in
    stops_reading g.T.Refusals.hears c.args.strict c.args.table c.args.lists c.lines.count
    c.lines.summary _ _ _ _ i.so_far i.reads c.in-Err.fault _ _ c.in-Err.ensures

pub returns-in-Err-count_line : goal.returns-in-Err-count_line
returns-in-Err-count_line g c =
    let i = c.lines.invariant in
    stops_counting g.T.Refusals.hears c.args.strict c.args.table c.args.lists c.lines.count
    c.lines.summary (g.R.Source.state c.args.input.now) (g.R.Source.state c.lines.input)
    c.args.refusals.now c.lines.refusals i.so_far i.reads c.in-Ok.ending c.read_line.new.line
    (c.lines.count + 1) c.in-Err-count_line.stop c.count_line.new.summary
    (g.R.Source.state c.read_line.new.input)
    c.count_line.new.refusals c.in-Ok.ensures
    (subst (λ (l : List ℕ). CountsLine g.T.Refusals.hears c.args.strict c.args.table
    c.args.lists (c.lines.count + 1) l c.lines.summary c.count_line.new.summary
    (Err c.in-Err-count_line.stop)
    c.lines.refusals c.count_line.new.refusals) c.as_bytes-line.ensures
    c.in-Err-count_line.ensures.counts) refl

pub returns-in-Input : goal.returns-in-Input
returns-in-Input g c =
    let i = c.lines.invariant in
    ends_well g.T.Refusals.hears c.args.strict c.args.table c.args.lists c.lines.count
    c.lines.summary (g.R.Source.state c.args.input.now) (g.R.Source.state c.lines.input)
    c.args.refusals.now c.lines.refusals i.so_far i.reads c.read_line.new.line
    (c.lines.count + 1) c.count_line.new.summary (g.R.Source.state c.read_line.new.input)
    c.count_line.new.refusals (rw c.in-Input.is at c.in-Ok.ensures)
    (rw c.as_bytes-line.ensures at c.in-Ok-count_line.ensures.counts) refl

pub lines-preserved : goal.lines-preserved
lines-preserved g c =
    let i = c.lines.invariant in
    let read = rw c.in-Feed.is at c.in-Ok.ensures in
    let counts = rw c.as_bytes-line.ensures at c.in-Ok-count_line.ensures.counts in
    let ((is, took), taken) = read in
    let (since, done, hears) = counts in
    record {
      so_far = goes_on g.T.Refusals.hears c.args.strict c.args.table c.args.lists
          c.lines.count c.lines.summary c.count_line.new.summary c.read_line.new.line since
          _ _ _ _ _ _ i.so_far is took done hears;
      reads = taken ∙ i.reads;
      most = c.in-Ok-count_line.ensures.most;
    }
