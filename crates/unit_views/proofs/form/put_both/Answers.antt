use Rattle.std.proofs.Common.{rules, refl}
use Rattle.unit_views.proofs.Puts.{both_put, first_not_put}
use Rattle.unit_views.proofs.form.put_both.Goals as goal

pub returns-in-Ok : goal.returns-in-Ok
returns-in-Ok g c =
    record {
      bytes =
          both_put c.put_rest.result _ _ _ c.args.header.now c.args.rest.now _ refl
          c.in-Ok.ensures.bytes c.put_rest.ensures.bytes;
      error = search rules;
    }

pub returns-in-Err : goal.returns-in-Err
returns-in-Err g c =
    let (part, counts) = c.in-Err.ensures.bytes in
    record {
      bytes = (first_not_put c.in-Err.e _ _ _ c.args.rest.now _ refl part, counts);
      error = search rules;
    }
