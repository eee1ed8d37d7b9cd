use Rattle.std.proofs.Common.{arith, refl}
use Rattle.data_history.proofs.Joining.{changes_few}
use Rattle.data_history.proofs.Returning.{made_again, spare_short}
use Rattle.data_history.proofs.since.return_to.Goals as goal

pub returns-in-Ok-clause-returns : goal.returns-in-Ok-clause-returns
returns-in-Ok-clause-returns c = λ x y h j.
    made_again _ c.args.present.now c.args.changes.now c.args.spare.now
    c.apply_in_order.new.output x y h j c.in-Ok.size c.in-Ok.ensures

pub returns-in-Err-clause-rooms : goal.returns-in-Err-clause-rooms
returns-in-Err-clause-rooms c = λ x y h j le. (
  refl,
  omega (
    arith,
    le,
    spare_short _ c.args.present.now c.args.changes.now c.args.spare.now
        c.apply_in_order.new.output x y h j c.in-Err.field-0
        (omega (
          arith,
          changes_few c.args.changes.now j.changes y.end j.sends,
          c.if-index-places.false,
        ))
        c.in-Err.ensures,
  ),
)
