use Rattle.rtr_wire.proofs.IntoRoom.{room_for_version}
use Rattle.rtr_wire.proofs.into.normalise_for_into.Goals as goal

pub returns-clause-room : goal.returns-clause-room
returns-clause-room c known enough =
    room_for_version c.args.version c.args.limit c.run.result.1 c.args.input.now c.args.output.now
    c.run.new.output c.run.result.0 c.run.ensures enough
