use Rattle.std.proofs.Common.{ap, ◌∙◌, arith}
use Rattle.rtr_base.specs.Bytes.{value}
use Rattle.rtr_payload.proofs.Joined.{part_of_take}
use Rattle.rtr_payload.proofs.pdu.router_key.RouterKey.asn.Goals as goal

pub returns : goal.returns
returns c =
    c.from_u32.ensures ∙ c.u32_at.ensures
    ∙ ap value
    (part_of_take c.args.self.now _ 32 28 4 c.as_partial_slice.ensures.value
    c.as_partial_slice.ensures.size (omega arith))
