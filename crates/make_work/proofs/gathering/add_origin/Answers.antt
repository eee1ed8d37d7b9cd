use Rattle.make_work.proofs.Origins.{none_refused, added, added_again}
use Rattle.make_work.proofs.gathering.add_origin.Goals as goal

pub returns-in-Ok : goal.returns-in-Ok
returns-in-Ok c =
    let o = c.args.origin in
    let d = c.args.payloads.now in
    let none = none_refused c.args._version c.args._leaves_out o d in
    (none, added o d c.announce.new.self c.in-Ok.ensures)

pub returns-in-Err-Duplicate : goal.returns-in-Err-Duplicate
returns-in-Err-Duplicate c =
    let o = c.args.origin in
    let d = c.args.payloads.now in (
      none_refused c.args._version c.args._leaves_out o d,
      added_again o d c.announce.new.self c.in-Err-Duplicate.field-0
          c.in-Err-Duplicate.field-0-is c.in-Err-Duplicate.ensures,
    )
