use Rattle.std.proofs.Common.{arith}
use Rattle.unit_any.proofs.Plain.{plain_front}
use Rattle.unit_any.proofs.Viewed.{front_whole}
use Rattle.unit_any.proofs.session_view.SessionView.first_plain.Goals as goal

pub of-requires-clause-whole : goal.of-requires-clause-whole
of-requires-clause-whole c =
    front_whole c.args.input.now c.in-Ok.unit.now (λ i. omega (arith, c.type_inv.input i))
    c.in-Ok.ensures.unit c.in-Ok.ensures.within c.in-Ok.ensures.size

pub of-requires-clause-kind : goal.of-requires-clause-kind
of-requires-clause-kind c =
    plain_front c.args.input.now c.in-Ok.unit.now
    (front_whole c.args.input.now c.in-Ok.unit.now (λ i. omega (arith, c.type_inv.input i))
    c.in-Ok.ensures.unit c.in-Ok.ensures.within c.in-Ok.ensures.size)
    c.in-Ok.ensures.unit c.requires.kind
