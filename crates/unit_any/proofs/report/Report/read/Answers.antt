use Rattle.std.proofs.Common.{rules}
use Rattle.rtr_units.specs.Reading.{by_bytes}
use Rattle.rtr_units.specs.HeaderBytes.{header_bytes}
use Rattle.rtr_units.proofs.UnitsRead.{reads_on}
use Rattle.unit_any.specs.SessionKinds.{report_unit}
use Rattle.unit_any.proofs.report.Report.read.Goals as goal

pub returns : goal.returns
returns g c =
    record {
      bytes = reads_on report_unit (header_bytes c.in_ok-header.header)
          (by_bytes (λ report. report) c.read_payload.result) _ _ _ c.in_ok-header.ensures.bytes
          c.read_payload.ensures.bytes.1;
      error = search rules;
    }
