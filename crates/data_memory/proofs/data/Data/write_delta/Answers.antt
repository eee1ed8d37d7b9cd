use Rattle.std.proofs.lemmas.Result.{err_from_is_err_and}
use Rattle.data_memory.proofs.Fronts.{first_stops, two_pieces}
use Rattle.data_memory.proofs.Written.{delta_parts}
use Rattle.data_memory.proofs.data.Data.write_delta.Goals as goal

pub returns-in_err-write_announcements-clause-known :
    goal.returns-in_err-write_announcements-clause-known
returns-in_err-write_announcements-clause-known g c =
    let p = err_from_is_err_and c.from_residual.result c.from_residual.ensures.1 in
    λ _. rw (p.1, p.2)
    (first_stops _ _ _ _ _ _ (delta_parts c.args.version c.args.self.now c.args.new.now)
    c.in_err-write_announcements.ensures.bytes)

pub returns-clause-known : goal.returns-clause-known
returns-clause-known g c =
    λ _. two_pieces _ _ _ _ _ _ c.write_withdrawals.result
    (delta_parts c.args.version c.args.self.now c.args.new.now)
    c.in_ok-write_announcements.ensures.bytes c.write_withdrawals.ensures.bytes
