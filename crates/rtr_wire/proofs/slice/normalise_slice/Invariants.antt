use Rattle.std.proofs.Common.{◌≡◌, Some}
use Rattle.rtr_wire.specs.Sequences.{everything}
use Rattle.rtr_wire.proofs.Stepping.{SoFar}
use Rattle.rtr_wire.proofs.slice.normalise_slice.Given as goal

abbrev pub invariant-loop-count : goal.invariant-loop-count
invariant-loop-count g l = record {
  so_far : SoFar everything l.count 0 (Some l.initial.rest) (Some l.rest)
      (g.W.Sink.state l.initial.writer).held (g.W.Sink.state l.writer).held;
  writes : (g.W.Sink.state l.writer).failed ≡ (g.W.Sink.state l.initial.writer).failed;
}
