use Rattle.std.proofs.Common.{◌≡◌}
use Rattle.list_lines.proofs.Runs.{SoFar}
use Rattle.list_lines.proofs.run.list.Given as goal

abbrev pub invariant-loop-count : goal.invariant-loop-count
invariant-loop-count g l = record {
  so_far : SoFar l.wanted l.found l.count l.printer.offset l.printer.checker
      (g.R.Source.state l.initial.input).left (g.R.Source.state l.input).left
      (g.W.Sink.state l.initial.output).held (g.W.Sink.state l.output).held;
  reads : (g.R.Source.state l.input).failed ≡ (g.R.Source.state l.initial.input).failed;
  writes : (g.W.Sink.state l.output).failed ≡ (g.W.Sink.state l.initial.output).failed;
}
