use Rattle.std.proofs.Common.{rules, ◌≡◌, ◌-◌, ◌<◌, ◌++◌, ◌∙◌, length, take, drop, sym, arith}
use Rattle.std.proofs.Common.{length-append, length-drop, length-take-le}
use Rattle.std.proofs.lemmas.Result.{err_from_is_err_and}
use Rattle.std.proofs.KnownBytes.{Consumes-trans}
use Rattle.rtr_units.specs.StopCauses.{cause_of}
use Rattle.rtr_units.proofs.UnitsRead.{short_more}
use Rattle.unit_any.proofs.Stops.{header_any}
use Rattle.unit_any.proofs.any_unit.next_header.Goals as goal

pub returns-in_err-fill-in-Ok-clause-bytes : goal.returns-in_err-fill-in-Ok-clause-bytes
returns-in_err-fill-in-Ok-clause-bytes g c =
    let n = c.in-Ok.n in
    let p = c.read.new.piece in
    let ((t, taken, s), counts) = c.in_err-fill-in-Ok.ensures.bytes in
    let long : length p ≡ 8 = c.read.auto.piece ∙ c.as_mut-bytes.ensures.size in
    let front : length (take n p) ≡ n = sym c.in-Ok.ensures.bound.1 in
    let some : ¬ (n ≡ 0) = c.in-Ok.n-test.1 in
    let rest = length-take-le (length p - n) (drop n p) (omega (arith, length-drop n p)) in
    let all = length-append (take n p) t in
    let m = length c.fill.new.piece in
    let more : length t < m → length (take n p ++ t) < 8 = λ less.
    omega (arith, less, c.fill.auto.piece, rest, long, all, front, c.in-Ok.ensures.bound.0) in
    let cause = cause_of c.in_err-fill-in-Ok.field-0.0 in
    let q = err_from_is_err_and c.from_residual.result c.from_residual.ensures.1 in
    rw (q.1, q.2) (
      (
        take n p ++ t,
        Consumes-trans _ _ _ _ _ c.in-Ok.ensures.bytes.0 taken,
        header_any cause (take n p ++ t) _ (omega (arith, all, front, some))
            (short_more m 8 cause (take n p) t _ more s),
      ),
      search rules,
    )

pub returns-in-Ok-eq0-clause-bytes : goal.returns-in-Ok-eq0-clause-bytes
returns-in-Ok-eq0-clause-bytes g c =
    let left = rw c.in-Ok-eq0.field-0-test at c.in-Ok-eq0.ensures.bytes.0 in
    let long : length c.read.new.piece ≡ 8 = c.read.auto.piece ∙ c.as_mut-bytes.ensures.size in (
      (left, c.in-Ok-eq0.ensures.bytes.1 c.in-Ok-eq0.field-0-test (omega (arith, long))),
      c.in-Ok-eq0.ensures.count,
    )

pub returns-in-Ok-eq0-clause-error : goal.returns-in-Ok-eq0-clause-error
returns-in-Ok-eq0-clause-error g c = tt

pub returns-in_ok-fill-in-Ok-clause-error : goal.returns-in_ok-fill-in-Ok-clause-error
returns-in_ok-fill-in-Ok-clause-error g c = tt
