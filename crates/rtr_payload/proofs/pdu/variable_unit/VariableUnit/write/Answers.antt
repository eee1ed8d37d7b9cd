use Rattle.rtr_payload.proofs.pdu.variable_unit.VariableUnit.write.Goals as goal

pub returns : goal.returns
returns g c = rw (← c.self.view_is, ← c.as_slice.ensures.value) c.put_parts.ensures
