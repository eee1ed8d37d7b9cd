use Rattle.std.proofs.Common.{List, ℕ, sym, subst, ◌∙◌, arith}
use Rattle.rtr_payload.proofs.Joined.{drop_joined}
use Rattle.rtr_payload.proofs.pdu.variable_unit.VariableUnit.from_frame.Goals as goal

pub from_bytes-requires : goal.from_bytes-requires
from_bytes-requires g c =
    let IsBody : List ℕ → Type 0 = λ b. g.B.Body.is_body b in
    let cut = drop_joined c.args.head.now c.args.frame 8 g.row.FIXED c.requires.head
    (omega (arith, (g.met.B.Body.sized).0)) in
    subst IsBody (cut ∙ sym c.advance.ensures) c.requires.is_body
