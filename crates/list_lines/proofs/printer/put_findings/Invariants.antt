use Rattle.std.proofs.Common.{◌≡◌, take}
use Rattle.std.specs.Io.KnownBytes.{Appends}
use Rattle.std.specs.List.{concat}
use Rattle.list_lines.specs.Listing.{finding_lines}
use Rattle.list_lines.proofs.printer.put_findings.Given as goal

abbrev pub invariant-loop-finding : goal.invariant-loop-finding
invariant-loop-finding g l = record {
  wrote : Appends (g.W.Sink.state l.initial.output).held (g.W.Sink.state l.output).held
      (concat (finding_lines l.offset (take l.finding-index l.findings)));
  writes : (g.W.Sink.state l.output).failed ≡ (g.W.Sink.state l.initial.output).failed;
}
