use Rattle.std.proofs.Common.{Err, Ok, false, refl}
use Rattle.make_work.proofs.Takings.{left_for}
use Rattle.validate_work.proofs.file.load_taken.Goals as goal

pub returns-in-Ok : goal.returns-in-Ok
returns-in-Ok c at items h for =
    let left = left_for 2 false at c.args.gathering items (Ok c.in-Ok.left) for
    (c.in-Ok.ensures items h) in
    (left.0, Ok c.in-Ok.left.expired, left.1, c.load_gathered.ensures left.0 left.2)

pub returns-in-Err : goal.returns-in-Err
returns-in-Err c at items h for =
    let left = left_for 2 false at c.args.gathering items (Err c.in-Err.refusal) for
    (c.in-Err.ensures items h) in
    (left.0, Err c.in-Err.refusal, left.1, refl)
