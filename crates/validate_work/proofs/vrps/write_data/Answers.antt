use Rattle.std.proofs.Common.{ℕ, ◌++◌, List, refl, arith, ap, sym}
use Rattle.std.proofs.lemmas.Result.{err_from_is_err_and}
use Rattle.data_memory.specs.Deltas.{all_for, change_forms}
use Rattle.data_memory.proofs.Fronts.{first_stops, two_pieces}
use Rattle.validate_work.proofs.vrps.write_data.Goals as goal

pub returns-in_err-write_all : goal.returns-in_err-write_all
returns-in_err-write_all g c =
    let p = err_from_is_err_and c.from_residual.result c.from_residual.ensures.1 in
    rw (p.1, p.2) (first_stops _ _ _ _ _ _ refl (c.in_err-write_all.ensures.known (omega arith)))

pub returns : goal.returns
returns g c =
    two_pieces _ _ _ _ _ _ c.write.result
    (ap (λ (l : List ℕ). change_forms 2 (all_for 2 c.args.payloads.now) ++ l)
    (sym c.end_of_kept.ensures))
    (c.in_ok-write_all.ensures.known (omega arith)) c.write.ensures.bytes
