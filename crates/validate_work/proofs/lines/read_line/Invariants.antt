use Rattle.std.proofs.Common.{◌≡◌}
use Rattle.std.specs.Io.KnownBytes.{Consumes}
use Rattle.validate_work.specs.LinesAnswered.{IsLine}
use Rattle.validate_work.proofs.lines.read_line.Given as goal

abbrev pub invariant-bytes : goal.invariant-bytes
invariant-bytes g l = record {
  is_line : IsLine l.line;
  took : Consumes (g.R.Source.state l.initial.input).left (g.R.Source.state l.input).left l.line;
  reads : (g.R.Source.state l.input).failed ≡ (g.R.Source.state l.initial.input).failed;
}
