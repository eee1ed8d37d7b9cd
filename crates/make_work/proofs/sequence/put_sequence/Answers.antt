use Rattle.std.proofs.Common.{refl}
use Rattle.std.proofs.lemmas.Result.{err_from_is_err_and}
use Rattle.data_memory.proofs.Fronts.{first_stops, two_pieces}
use Rattle.make_work.proofs.sequence.put_sequence.Goals as goal

pub returns-in_err-write_all : goal.returns-in_err-write_all
returns-in_err-write_all g c =
    let p = err_from_is_err_and c.from_residual.result c.from_residual.ensures.1 in
    rw (p.1, p.2) (first_stops _ _ _ _ _ _ refl (c.in_err-write_all.ensures.known c.requires))

pub returns : goal.returns
returns g c =
    two_pieces _ _ _ _ _ _ c.write.result refl (c.in_ok-write_all.ensures.known c.requires)
    c.write.ensures.bytes
