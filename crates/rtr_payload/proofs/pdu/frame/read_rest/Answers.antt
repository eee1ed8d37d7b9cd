use Rattle.rtr_payload.proofs.pdu.frame.read_rest.Goals as goal

pub returns-in-Err-clause-range : goal.returns-in-Err-clause-range
returns-in-Err-clause-range g c = tt

pub returns-in-Err-clause-error : goal.returns-in-Err-clause-error
returns-in-Err-clause-error g c = tt

pub returns-in-Ok-from_vec-clause-error : goal.returns-in-Ok-from_vec-clause-error
returns-in-Ok-from_vec-clause-error g c = tt

pub returns-clause-range : goal.returns-clause-range
returns-clause-range g c = tt

pub returns-clause-error : goal.returns-clause-error
returns-clause-error g c = tt
