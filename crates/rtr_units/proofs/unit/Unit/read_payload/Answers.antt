use Rattle.rtr_units.proofs.unit.Unit.read_payload.Goals as goal

pub returns : goal.returns
returns g c = record { bytes = c.in_ok-read_rest.ensures.bytes; error = tt }
