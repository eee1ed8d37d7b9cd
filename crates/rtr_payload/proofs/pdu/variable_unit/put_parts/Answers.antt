use Rattle.std.proofs.Common.{◌++◌, ap, ◌∙◌, append_assoc, arith, rules}
use Rattle.std.proofs.lemmas.List.{length-append}
use Rattle.std.proofs.lemmas.Result.{err_from_is_err_and}
use Rattle.rtr_payload.proofs.Joined.{both_put}
use Rattle.rtr_payload.proofs.pdu.variable_unit.put_parts.Goals as goal

pub returns : goal.returns
returns g c =
    record {
      bytes =
          both_put c.put-2.result _ _ _ c.args.front.now _ c.in_ok-put.ensures.bytes
          c.put-2.ensures.bytes;
      error = search rules;
    }

pub returns-in_err-put : goal.returns-in_err-put
returns-in_err-put g c =
    let p = err_from_is_err_and c.from_residual.result c.from_residual.ensures.1 in
    let ((w, r, wrote, split, some, stop), counts) = c.in_err-put.ensures.bytes in
    let back = c.args.back.now in
    let whole = ap (λ l. l ++ back) split ∙ append_assoc w r back in
    rw (p.1, p.2) (record {
      bytes = (
        (w, r ++ back, wrote, whole, omega (arith, length-append r back, some), stop),
        counts,
      );
      error = c.in_err-put.ensures.error;
    })
