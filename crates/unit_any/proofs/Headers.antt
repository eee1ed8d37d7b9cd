-- Where reading an error report stops, by its header and by what follows it.
use Rattle.std.proofs.Common.{eqb, cond, Some}
use Rattle.rtr_units.specs.StopCauses.{unit_type}
use Rattle.rtr_units.specs.Reading.{least_length}
use Rattle.rtr_units.proofs.Headers.{same_header}
use Rattle.rtr_units.proofs.UnitsRead.{ByHeader}
use Rattle.unit_any.specs.SessionKinds.{report_unit}

pub report_by : ByHeader report_unit
report_by = record {
  fault = λ h t l.
      (λ i.
      let s = same_header h t l in
      cond (eqb (s.kind i) 10) (least_length 16 (s.size i)) (Some (unit_type (s.kind i))));
}
