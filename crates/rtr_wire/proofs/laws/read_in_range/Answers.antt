use Rattle.rtr_payload.proofs.Fields.{unit_payload}
use Rattle.rtr_wire.proofs.Runs.{are_payloads}
use Rattle.rtr_wire.proofs.laws.read_in_range.Goals as goal

pub returns-clause-unit : goal.returns-clause-unit
returns-clause-unit c = unit_payload

pub returns-clause-units : goal.returns-clause-units
returns-clause-units c = are_payloads

pub returns-clause-end : goal.returns-clause-end
returns-clause-end c = λ b e h. h.fits
