use Rattle.std.proofs.Common.{arith}
use Rattle.rtr_payload.proofs.Frames.{nine_in_order}
use Rattle.rtr_payload.proofs.Variable.{key_too_long, key_length}
use Rattle.rtr_payload.proofs.Wholes.{key_body}
use Rattle.rtr_payload.proofs.pdu.router_key.RouterKeyInfoBodyFIXED.check_header.Goals as goal

pub returns-then-size-gt-MAX_SIZE-clause-answer : goal.returns-then-size-gt-MAX_SIZE-clause-answer
returns-then-size-gt-MAX_SIZE-clause-answer c =
    key_too_long _ _ _ (omega (arith, c.length-size.ensures.value))

pub returns-then-size-clause-answer : goal.returns-then-size-clause-answer
returns-then-size-clause-answer c = key_length _ _ _ (omega (arith, c.length-size.ensures.value))

pub returns-clause-answer : goal.returns-clause-answer
returns-clause-answer c =
    nine_in_order _ _ _ (omega (arith, c.length-size.ensures.value))
    (omega (arith, c.length-size.ensures.value))

pub returns-clause-whole : goal.returns-clause-whole
returns-clause-whole c = key_body
