use Rattle.rtr_wire.proofs.InVersion.{sequence_for, run_for_again}
use Rattle.rtr_wire.proofs.laws.idempotent_for.Goals as goal

pub returns-clause-form : goal.returns-clause-form
returns-clause-form c = sequence_for

pub returns-clause-run : goal.returns-clause-run
returns-clause-run c = run_for_again
