use Rattle.rtr_c.proofs.Rooms.{finding_room, name_room}
use Rattle.rtr_c.proofs.laws.bounded_texts.Goals as goal

pub returns-clause-name : goal.returns-clause-name
returns-clause-name c = name_room

pub returns-clause-finding : goal.returns-clause-finding
returns-clause-finding c = finding_room
