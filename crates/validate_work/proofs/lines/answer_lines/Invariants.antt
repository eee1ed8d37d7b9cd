use Rattle.std.proofs.Common.{◌≡◌, ◌≤◌}
use Rattle.validate_work.proofs.LinesSoFar.{LinesSoFar}
use Rattle.validate_work.proofs.lines.answer_lines.Given as goal

abbrev pub invariant-lines : goal.invariant-lines
invariant-lines g l = record {
  so_far : LinesSoFar g.T.Refusals.hears l.strict l.formats l.lists l.count l.refused
      (g.R.Source.state l.initial.input).left (g.R.Source.state l.input).left
      (g.W.Sink.state l.initial.output).held (g.W.Sink.state l.output).held
      l.initial.refusals l.refusals;
  reads : (g.R.Source.state l.input).failed ≡ (g.R.Source.state l.initial.input).failed;
  writes : (g.W.Sink.state l.output).failed ≡ (g.W.Sink.state l.initial.output).failed;
  most : l.refused ≤ l.count;
}
