use Rattle.list_lines.proofs.Printing.{one_broken}
use Rattle.list_lines.specs.declared.run.Wanted.TheVariants.{Text, Json}
use Rattle.list_lines.proofs.printer.unbroken.Goals as goal

pub returns-in-Err-clause-text : goal.returns-in-Err-clause-text
returns-in-Err-clause-text c = λ failure text old new put. one_broken Text text failure old new
    (rw c.in-Err.is at put)

pub returns-in-Err-clause-json : goal.returns-in-Err-clause-json
returns-in-Err-clause-json c = λ failure text old new put. one_broken Json text failure old new
    (rw c.in-Err.is at put)
