use Rattle.std.proofs.Common.{[], rules, arith, ◌≡◌, length, ◌++◌, ◌∙◌}
use Rattle.std.proofs.Common.{length-append, length-drop, drop, length-take-le}
use Rattle.std.proofs.lemmas.Result.{err_from_is_err_and}
use Rattle.std.proofs.KnownBytes.{Consumes-trans}
use Rattle.rtr_base.proofs.Numbers.{IsBytes-append}
use Rattle.rtr_units.specs.StopCauses.{cause_of}
use Rattle.rtr_units.proofs.UnitsRead.{short_more}
use Rattle.rtr_units.proofs.error.skip.Goals as goal

pub loop-left-preserved : goal.loop-left-preserved
loop-left-preserved g c =
    let (t, taken, range, size) = c.loop-left.invariant.taken in
    let room = c.loop-left.invariant.room in
    let piece = c.fill.new.piece in
    let step : length piece ≡ c.min-step.result =
    c.fill.auto.piece ∙ length-take-le _ _ (omega (arith, c.min-step.ensures)) in
    record {
      taken = (
        t ++ piece,
        Consumes-trans _ _ _ _ _ taken c.in_ok-fill.ensures.bytes.0.0,
        IsBytes-append t piece range c.fill.ensures.range,
        omega (arith, length-append t piece, c.min-step.ensures),
      );
      room =
          omega (
            arith,
            length-append piece (drop c.min-step.result c.loop-left.buffer),
            length-drop c.min-step.result c.loop-left.buffer,
            c.min-step.ensures,
          );
      count = search rules;
    }

pub returns-in_err-fill-clause-bytes : goal.returns-in_err-fill-clause-bytes
returns-in_err-fill-clause-bytes g c =
    let (t, taken, range, size) = c.loop-left.invariant.taken in
    let room = c.loop-left.invariant.room in
    let ((u, more, stops), count) = c.in_err-fill.ensures.bytes in
    let step : length c.fill.new.piece ≡ c.min-step.result =
    c.fill.auto.piece ∙ length-take-le _ _ (omega (arith, c.min-step.ensures)) in
    let p = err_from_is_err_and c.from_residual.result c.from_residual.ensures.1 in
    rw (p.1, p.2) (
      [],
      (
        (
          t ++ u,
          Consumes-trans _ _ _ _ _ taken more,
          short_more _ _ (cause_of c.in_err-fill.field-0.0) t u _
              (λ below. omega (arith, length-append t u, c.min-step.ensures)) stops,
        ),
        search rules,
      ),
    )
