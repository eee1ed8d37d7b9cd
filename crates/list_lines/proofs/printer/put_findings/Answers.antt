use Rattle.std.proofs.Common.{rules, Ok, Err}
use Rattle.text_findings.specs.declared.finding.Finding.TheVariants.{Reserved}
use Rattle.list_lines.proofs.Printing.{goes_on, stops_putting, same_line, puts_none}
use Rattle.list_lines.proofs.printer.put_findings.Goals as goal

pub returns-then-is_err-clause-lines : goal.returns-then-is_err-clause-lines
returns-then-is_err-clause-lines g c = (
  stops_putting c.keep.new.failure c.args.offset c.args.findings.now
      c.loop-finding.finding-index (Reserved 0) _ _ _ c.loop-finding-test.true
      c.loop-finding.invariant.wrote (puts_none _ _ _ c.keep.ensures),
  search rules,
)

pub returns-in-Err-clause-lines : goal.returns-in-Err-clause-lines
returns-in-Err-clause-lines g c =
    let put = rw c.in-Err.is at c.put.ensures.bytes in (
      stops_putting c.put.new.failure c.args.offset c.args.findings.now c.loop-finding.finding-index
          (Reserved 0) _ _ _ c.loop-finding-test.true c.loop-finding.invariant.wrote
          (same_line _ _ (Err c.put.new.failure) _ _ (search rules) put.0),
      search rules,
    )

pub loop-finding-preserved : goal.loop-finding-preserved
loop-finding-preserved g c =
    let put = rw c.in-Ok.is at c.put.ensures.bytes in record {
      wrote = goes_on c.in-Ok.field-0 c.args.offset c.args.findings.now
          c.loop-finding.finding-index (Reserved 0) _ _ _ c.loop-finding-test.true
          c.loop-finding.invariant.wrote
          (same_line _ _ (Ok c.in-Ok.field-0) _ _ (search rules) put.0);
      writes = search rules;
    }
