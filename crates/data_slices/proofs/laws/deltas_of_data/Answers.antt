use Rattle.data_slices.proofs.Answered.{room, written}
use Rattle.data_slices.proofs.DeltaRoom.{enough_room}
use Rattle.data_slices.proofs.laws.deltas_of_data.Goals as goal

pub returns-clause-written : goal.returns-clause-written
returns-clause-written c = λ r old new before after d d' e e' h j version session w.
    written old new before after d d' e e' h j r version session w

pub returns-clause-fits : goal.returns-clause-fits
returns-clause-fits c = enough_room

pub returns-clause-room : goal.returns-clause-room
returns-clause-room c = room
