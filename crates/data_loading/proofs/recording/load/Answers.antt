use Rattle.std.proofs.Common.{length, min}
use Rattle.data_loading.proofs.Room.{index_to_load, room_to_load}
use Rattle.data_loading.proofs.recording.load.Goals as goal

pub returns-clause-index : goal.returns-clause-index
returns-clause-index c =
    index_to_load c.load_units.result c.args.input.now (length c.args.index.now)
    (min (length c.args.work.now) (length c.args.output.now)) c.load_units.new.output
    c.load_units.ensures

pub returns-clause-room : goal.returns-clause-room
returns-clause-room c =
    room_to_load c.load_units.result c.args.input.now (length c.args.index.now)
    (min (length c.args.work.now) (length c.args.output.now)) c.load_units.new.output
    c.load_units.ensures
