use Rattle.std.proofs.Common.{◌∙◌, arith}
use Rattle.rtr_payload.proofs.Joined.{part_of_take}
use Rattle.rtr_payload.proofs.pdu.router_key.RouterKey.key_identifier.Goals as goal

pub returns-clause-value : goal.returns-clause-value
returns-clause-value c =
    c.copy_from_slice.ensures.after
    ∙ part_of_take c.args.self.now _ 32 8 20 c.as_partial_slice.ensures.value
    c.as_partial_slice.ensures.size (omega arith)
