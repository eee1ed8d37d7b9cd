use Rattle.std.proofs.Common.{◌∙◌, ap, subst}
use Rattle.list_lines.specs.Listing.{finding_lines}
use Rattle.list_lines.specs.PrivateLines.{Prints, returned}
use Rattle.text_findings.specs.Rules.{end_findings}
use Rattle.list_lines.specs.declared.run.Wanted.TheVariants.{Findings}
use Rattle.list_lines.proofs.printer.Printer.finish_findings.Goals as goal

pub returns-in-Ok-clause-lines : goal.returns-in-Ok-clause-lines
returns-in-Ok-clause-lines g c = λ before seen place.
    subst
    (λ ls. Prints Findings ls (returned c.put_findings.result c.put_findings.new.failure)
    (g.W.Sink.state c.args.output.now) (g.W.Sink.state c.put_findings.new.output))
    (ap (finding_lines c.args.self.now.offset)
    (c.deref.ensures.value ∙ c.in-Ok.ensures before seen)
    ∙ ap (λ o. finding_lines o (end_findings before)) place)
    c.put_findings.ensures.lines
