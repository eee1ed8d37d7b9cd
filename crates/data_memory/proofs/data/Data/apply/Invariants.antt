use Rattle.std.proofs.Common.{◌≡◌}
use Rattle.data_memory.proofs.Applied.{SoFar}
use Rattle.data_memory.proofs.data.Data.apply.Given as goal

abbrev pub invariant-loop-units : goal.invariant-loop-units
invariant-loop-units g l = record {
  so_far : SoFar l.units (g.R.Source.state l.initial.reader).left (g.R.Source.state l.reader).left
      l.initial.self l.next;
  reads : (g.R.Source.state l.reader).failed ≡ (g.R.Source.state l.initial.reader).failed;
  same : l.self ≡ l.initial.self;
}
