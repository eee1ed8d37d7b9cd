use Rattle.std.proofs.Common.{ℕ, List, ◌≡◌, ◌+◌, length}
use Rattle.std.specs.Io.KnownBytes.{Consumes}
use Rattle.rtr_base.specs.Bytes.{IsBytes}
use Rattle.rtr_units.proofs.error.skip.Given as goal

abbrev pub invariant-loop-left : goal.invariant-loop-left
invariant-loop-left g l = record {
  taken : (t : List ℕ)
      × Consumes (g.R.Source.state l.initial.reader).left (g.R.Source.state l.reader).left t
      × IsBytes t × (length t + l.left ≡ l.size);
  room : length l.buffer ≡ 1024;
  count : (g.R.Source.state l.reader).failed ≡ (g.R.Source.state l.initial.reader).failed;
}

abbrev pub decreases-loop-left : goal.decreases-loop-left
decreases-loop-left g l = l.left
