use Rattle.rtr_base.proofs.Prefixes.{prefix_same}
use Rattle.rtr_base.proofs.Prefixes.{prefix_total}
use Rattle.rtr_base.proofs.laws.prefix_order.Goals as goal

pub returns-clause-total : goal.returns-clause-total
returns-clause-total c = prefix_total

pub returns-clause-exact : goal.returns-clause-exact
returns-clause-exact c = prefix_same
