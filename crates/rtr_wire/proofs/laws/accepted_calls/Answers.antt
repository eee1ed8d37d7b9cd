use Rattle.rtr_wire.proofs.Calls.{answers, needs_none}
use Rattle.rtr_wire.proofs.laws.accepted_calls.Goals as goal

pub returns-clause-answers : goal.returns-clause-answers
returns-clause-answers c = answers

pub returns-clause-memory : goal.returns-clause-memory
returns-clause-memory c = needs_none
