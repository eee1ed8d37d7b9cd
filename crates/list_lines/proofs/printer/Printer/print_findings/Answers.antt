use Rattle.std.proofs.Common.{◌∙◌, ap}
use Rattle.list_lines.specs.Listing.{finding_lines}
use Rattle.list_lines.proofs.printer.Printer.print_findings.Goals as goal

pub returns-in-Ok-clause-lines : goal.returns-in-Ok-clause-lines
returns-in-Ok-clause-lines g c = λ before seen. (
  _,
  ap (finding_lines c.args.self.now.offset)
      (c.deref.ensures.value ∙ (c.in-Ok.ensures before seen).0),
  c.put_findings.ensures.lines,
)
