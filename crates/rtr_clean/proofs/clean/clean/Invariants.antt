use Rattle.std.proofs.Common.{◌≡◌}
use Rattle.rtr_clean.specs.PrivateClean.{form_held}
use Rattle.rtr_clean.proofs.Runs.{SoFar}
use Rattle.rtr_clean.proofs.clean.clean.Given as goal

abbrev pub invariant-loop-count : goal.invariant-loop-count
invariant-loop-count g l = record {
  so_far : SoFar (form_held l.wanted) l.count
      (g.R.Source.state l.initial.input).left (g.R.Source.state l.input).left
      (g.W.Sink.state l.initial.output).held (g.W.Sink.state l.output).held;
  reads : (g.R.Source.state l.input).failed ≡ (g.R.Source.state l.initial.input).failed;
  writes : (g.W.Sink.state l.output).failed ≡ (g.W.Sink.state l.initial.output).failed;
}
