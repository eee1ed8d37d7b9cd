use Rattle.std.proofs.Common.{inl, inr}
use Rattle.std.proofs.lemmas.Result.{err_from_is_err_and}
use Rattle.make_work.proofs.NoPart.{breaks}
use Rattle.make_work.proofs.json_objects.Spot.origin.Goals as goal

pub returns-in_err-asn : goal.returns-in_err-asn
returns-in_err-asn c =
    let residual = c.from_residual-in_err-asn in
    let p = err_from_is_err_and residual.result residual.ensures.1 in
    rw (p.1, p.2) (inr (
      c.in_ok-prefix.prefix,
      c.in_ok-prefix.ensures,
      inr (c.in_ok-max_length.max_length, c.in_ok-max_length.ensures, inl c.in_err-asn.ensures),
    ))

pub returns-in-Err : goal.returns-in-Err
returns-in-Err c = inr (
  c.in_ok-prefix.prefix,
  c.in_ok-prefix.ensures,
  inr (
    c.in_ok-max_length.max_length,
    c.in_ok-max_length.ensures,
    inr (
      c.in_ok-asn.asn,
      c.in_ok-asn.ensures,
      breaks c.in_ok-max_length.max_length c.in_ok-prefix.prefix c.in-Err.error _
          c.in-Err.ensures.overflow c.in-Err.ensures.underflow c.refusal_of.ensures,
    ),
  ),
)
