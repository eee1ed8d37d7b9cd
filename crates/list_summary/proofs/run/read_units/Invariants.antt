use Rattle.std.proofs.Common.{◌≡◌}
use Rattle.list_summary.proofs.SummarisedUnits.{SoFar}
use Rattle.list_summary.proofs.run.read_units.Given as goal

abbrev pub invariant-loop-count : goal.invariant-loop-count
invariant-loop-count g l = record {
  so_far : SoFar l.count l.summary
      (g.R.Source.state l.initial.input).left (g.R.Source.state l.input).left;
  reads : (g.R.Source.state l.input).failed ≡ (g.R.Source.state l.initial.input).failed;
}
