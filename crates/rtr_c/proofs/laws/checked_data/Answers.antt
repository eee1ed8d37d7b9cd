use Rattle.rtr_c.proofs.Looked.{by_data, first_by_data, of_no_bytes}
use Rattle.rtr_c.proofs.laws.checked_data.Goals as goal

pub returns-clause-validity : goal.returns-clause-validity
returns-clause-validity c = by_data

pub returns-clause-covering : goal.returns-clause-covering
returns-clause-covering c = first_by_data

pub returns-clause-refused : goal.returns-clause-refused
returns-clause-refused c = of_no_bytes
