use Rattle.std.proofs.Common.{◌≡◌, ◌≤◌}
use Rattle.validate_work.specs.RoutesCounted.{total_of}
use Rattle.validate_work.proofs.CountedSoFar.{CountedSoFar}
use Rattle.validate_work.proofs.counts.count_lines.Given as goal

abbrev pub invariant-lines : goal.invariant-lines
invariant-lines g l = record {
  so_far : CountedSoFar g.T.Refusals.hears l.strict l.table l.lists l.count l.summary
      (g.R.Source.state l.initial.input).left (g.R.Source.state l.input).left
      l.initial.refusals l.refusals;
  reads : (g.R.Source.state l.input).failed ≡ (g.R.Source.state l.initial.input).failed;
  most : total_of l.summary.counts ≤ l.count;
}
