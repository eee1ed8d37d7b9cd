use Rattle.validate_work.proofs.route_text.is_asn.Goals as goal

pub returns-in-Err : goal.returns-in-Err
returns-in-Err c (n, is) = c.in-Err.ensures.value n is
