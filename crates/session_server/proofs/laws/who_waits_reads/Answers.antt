use Rattle.session_server.proofs.Paces.{sending_rests, waiting_reads}
use Rattle.session_server.proofs.laws.who_waits_reads.Goals as goal

pub returns : goal.returns
returns c = record { waits = waiting_reads; sends = sending_rests }
