use Rattle.rtr_c.proofs.Joined.{one_of_two}
use Rattle.rtr_c.proofs.laws.two_calls_are_one.Goals as goal

pub returns : goal.returns
returns c = one_of_two c.resumed.ensures
