use Rattle.make_work.proofs.NoValue.{by_base64}
use Rattle.make_work.proofs.json_values.key_identifier_of.Goals as goal

pub returns-in-Err : goal.returns-in-Err
returns-in-Err c =
    by_base64 c.key_identifier_of_base64.result _ c.in_ok-text.text.now c.in-Err.error
    c.in_ok-text.ensures c.in-Err.ensures.value c.key_identifier_of_base64.ensures
