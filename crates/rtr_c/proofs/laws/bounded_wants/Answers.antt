use Rattle.rtr_c.proofs.Wanted.{call_wants, comparison_wants, next_wants}
use Rattle.rtr_c.proofs.laws.bounded_wants.Goals as goal

pub returns-clause-next : goal.returns-clause-next
returns-clause-next c = next_wants

pub returns-clause-sequence : goal.returns-clause-sequence
returns-clause-sequence c = call_wants

pub returns-clause-comparison : goal.returns-clause-comparison
returns-clause-comparison c = comparison_wants
