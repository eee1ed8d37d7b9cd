use Rattle.data_slices.proofs.ApplyRoom.{room_to_apply}
use Rattle.data_slices.proofs.MadeData.{makes_data}
use Rattle.data_slices.proofs.Reapplied.{applied, one_changes, room}
use Rattle.data_slices.proofs.laws.changes_in_slices.Goals as goal

pub returns-clause-one : goal.returns-clause-one
returns-clause-one c = one_changes

pub returns-clause-applied : goal.returns-clause-applied
returns-clause-applied c = λ r old input before after d d' cs e e' h j version session all w.
    applied old input before after d d' cs e e' h j all r version session w

pub returns-clause-fits : goal.returns-clause-fits
returns-clause-fits c = room_to_apply

pub returns-clause-makes_data : goal.returns-clause-makes_data
returns-clause-makes_data c = makes_data

pub returns-clause-room : goal.returns-clause-room
returns-clause-room c = room
