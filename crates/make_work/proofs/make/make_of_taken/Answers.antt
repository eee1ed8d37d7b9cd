use Rattle.std.proofs.Common.{Err, Ok, refl}
use Rattle.make_work.specs.MakeStatus.{time_asked}
use Rattle.make_work.specs.Making.{version_number}
use Rattle.make_work.proofs.Takings.{left_for}
use Rattle.make_work.proofs.make.make_of_taken.Goals as goal

pub returns-in-Ok : goal.returns-in-Ok
returns-in-Ok g c now items h asked =
    let a = c.args.asked.now in
    let left = left_for (version_number a.version) a.leaves_out (time_asked now a)
    c.args.gathering items (Ok c.in-Ok.left) asked (c.in-Ok.ensures items h) in
    (left.0, Ok c.in-Ok.left.expired, left.1, c.write.ensures left.0 left.2)

pub returns-in-Err : goal.returns-in-Err
returns-in-Err g c now items h asked =
    let a = c.args.asked.now in
    let left = left_for (version_number a.version) a.leaves_out (time_asked now a)
    c.args.gathering items (Err c.in-Err.refusal) asked (c.in-Err.ensures items h) in
    (left.0, Err c.in-Err.refusal, left.1, (refl, c.tell_refusal.ensures))
