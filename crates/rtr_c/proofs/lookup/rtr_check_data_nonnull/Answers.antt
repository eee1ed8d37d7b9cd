use Rattle.std.proofs.Common.{Some, None, refl, ap}
use Rattle.rtr_units.specs.AnyEnd.{end_meaning}
use Rattle.rtr_c.proofs.lookup.rtr_check_data_nonnull.Goals as goal

pub returns-in-Ok : goal.returns-in-Ok
returns-in-Ok c =
    let held = c.in-Ok.ensures.data in (
      None,
      (
        (held.0, end_meaning c.in-Ok._end, held.1),
        c.of.ensures,
        (c.wrote.ensures, ap (λ a. a.status) c.wrote.ensures),
      ),
    )

pub returns-in-Err : goal.returns-in-Err
returns-in-Err c = (
  Some c.in-Err.flaw,
  (
    c.in-Err.ensures.flaw,
    refl,
    (c.of_flaw.ensures, ap (λ a. a.status) c.of_flaw.ensures),
  ),
)
