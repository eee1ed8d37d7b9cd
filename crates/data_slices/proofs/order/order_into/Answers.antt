use Rattle.std.proofs.Common.{refl, arith}
use Rattle.rtr_units.specs.AnyEnd.{end_meaning}
use Rattle.data_slices.proofs.Refusals.{as_many, as_sends, have_units}
use Rattle.data_slices.proofs.order.order_into.Goals as goal

pub returns-then-count-index : goal.returns-then-count-index
returns-then-count-index c =
    let r = c.in-Ok.ensures.read in
    let e = end_meaning c.in-Ok.read.0 in
    let many = as_many c.args.input.now e.version r.os r.cs
    (have_units c.args.input.now r.os r.cs e r.sends) in (
      (
        r.cs,
        e,
        as_sends c.args.input.now r.os r.cs e r.sends,
        omega (arith, many, r.counts, c.if-count-index.true, c.in-Ok.ensures.same_length),
      ),
      refl,
    )
