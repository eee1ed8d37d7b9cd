use Rattle.text_lines.proofs.Laid.{lays_length, lays_size, lays_whole}
use Rattle.text_lines.proofs.laws.texts_where_there_is_room.Goals as goal

pub returns-clause-length : goal.returns-clause-length
returns-clause-length c = lays_length

pub returns-clause-whole : goal.returns-clause-whole
returns-clause-whole c = lays_whole

pub returns-clause-size : goal.returns-clause-size
returns-clause-size c = lays_size
