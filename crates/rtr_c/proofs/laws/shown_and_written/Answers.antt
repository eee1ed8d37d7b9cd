use Rattle.rtr_c.proofs.Again.{written_again}
use Rattle.rtr_c.proofs.laws.shown_and_written.Goals as goal

pub returns : goal.returns
returns c = written_again
